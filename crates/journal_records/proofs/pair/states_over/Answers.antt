use Rattle.std.proofs.Common.{drop, arith}
use Rattle.std.proofs.lemmas.Bool.{false≢true}
use Rattle.journal_records.proofs.PairPrefixes.{none_over, whole_not_over, short_not_over}
use Rattle.journal_records.proofs.pair.states_over.Goals as goal

pub returns-in-Whole : goal.returns-in-Whole
returns-in-Whole c =
    let bytes = c.args.bytes.now in
    let first = c.in-Whole.ensures in
    (λ e. absurd (false≢true e), λ over. absurd (whole_not_over c.args.limit bytes (drop c.in-Whole.field-1 bytes) c.in-Whole.field-0 (omega arith) first.0 first.2 over))

pub returns-in-End : goal.returns-in-End
returns-in-End c = (λ e. absurd (false≢true e), λ over. absurd (none_over c.args.limit c.args.bytes.now c.in-End.ensures over))

pub returns-in-Short : goal.returns-in-Short
returns-in-Short c = (λ e. absurd (false≢true e), λ over. absurd (short_not_over c.args.limit c.args.bytes.now c.in-Short.ensures.2 over))
