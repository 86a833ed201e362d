use Rattle.std.proofs.Common.{inr, drop, refl, IsTrue}
use Rattle.exchange_session.proofs.RunLaws.{run_is_exact}
use Rattle.session_resume.proofs.Written.{to_end, to_torn, to_limit, to_cut, to_want}
use Rattle.session_resume.proofs.resume.serve_all.Goals as goal

pub go_over_bytes-requires-clause-exact : goal.go_over_bytes-requires-clause-exact
go_over_bytes-requires-clause-exact g c = run_is_exact

pub returns-in-Ok-go_over_bytes-clause-ends : goal.returns-in-Ok-go_over_bytes-clause-ends
returns-in-Ok-go_over_bytes-clause-ends g c =
    let rest = drop c.args.place c.args.bytes.now in
    let ends = rw c.over.ensures.state at c.in-Ok-go_over_bytes.ensures.ends in
    (ends.1, to_end c.args.session (IsTrue c.args.more) c.args.place rest ends.1 ends.2, ends.3)

pub returns-in-Err-Torn : goal.returns-in-Err-Torn
returns-in-Err-Torn g c =
    let rest = drop c.args.place c.args.bytes.now in
    let ends = rw c.over.ensures.state at (rw c.in-Err-Torn.field-0-is at c.in-Err-Torn.ensures.ends) in
    let cause = rw c.in-Err-Torn.field-0-is at c.in-Err-Torn.ensures.cause in
    record {
      ends = (ends.0, to_torn c.args.session (IsTrue c.args.more) c.args.place rest c.in-Err-Torn.place ends.0 ends.1, ends.2);
      cause = record { later = cause.later; rose = λ e. absurd cc; quiet = λ _. cause.quiet (λ e. cc) };
    }

pub returns-in-Err-TooLong : goal.returns-in-Err-TooLong
returns-in-Err-TooLong g c =
    let rest = drop c.args.place c.args.bytes.now in
    let ends = rw c.over.ensures.state at (rw c.in-Err-TooLong.field-0-is at c.in-Err-TooLong.ensures.ends) in
    let cause = rw c.in-Err-TooLong.field-0-is at c.in-Err-TooLong.ensures.cause in
    record {
      ends = (ends.0, to_limit c.args.session (IsTrue c.args.more) c.args.place rest ends.0 ends.1, ends.2);
      cause = record { later = cause.later; rose = λ e. absurd cc; quiet = λ _. cause.quiet (λ e. cc) };
    }

pub returns-in-Err-Write : goal.returns-in-Err-Write
returns-in-Err-Write g c =
    let rest = drop c.args.place c.args.bytes.now in
    let ends = rw c.over.ensures.state at (rw c.in-Err-Write.field-0-is at c.in-Err-Write.ensures.ends) in
    let cause = rw c.in-Err-Write.field-0-is at c.in-Err-Write.ensures.cause in
    record {
      ends = (ends.1, to_cut c.args.session (IsTrue c.args.more) c.args.place rest ends.1 ends.2, ends.3);
      cause = record { later = cause.later; rose = λ _. cause.rose refl; quiet = λ not. absurd (not refl) };
    }

pub returns-in-Err-Memory : goal.returns-in-Err-Memory
returns-in-Err-Memory g c =
    let rest = drop c.args.place c.args.bytes.now in
    let ends = rw c.over.ensures.state at (rw c.in-Err-Memory.field-0-is at c.in-Err-Memory.ensures.ends) in
    let cause = rw c.in-Err-Memory.field-0-is at c.in-Err-Memory.ensures.cause in
    record {
      ends = (ends.1, inr (to_want c.args.session (IsTrue c.args.more) c.args.place rest ends.1 ends.2), ends.3);
      cause = record { later = cause.later; rose = λ e. absurd cc; quiet = λ _. cause.quiet (λ e. cc) };
    }
