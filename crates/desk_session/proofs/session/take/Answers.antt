use Rattle.std.proofs.Common.{ap}
use Rattle.wire_records.specs.Views.{command_of}
use Rattle.journal_records.specs.Views.{answer_of}
use Rattle.pair_text.proofs.Joining.{on_ok}
use Rattle.desk_session.proofs.Fitting.{fits_read, served_as_seen}
use Rattle.desk_session.proofs.Answering.{batch_told}
use Rattle.desk_session.proofs.session.take.Goals as goal

pub tell_entry-requires-in-Cleared-clause-fits : goal.tell_entry-requires-in-Cleared-clause-fits
tell_entry-requires-in-Cleared-clause-fits c =
    let legal = c.requires.change.legal in
    let answer = answer_of c.args.seen.now in
    rw c.requires.counted (fits_read c.args.market.now legal.step.read answer c.requires.change.new c.alloc-consistent.ensures.consistent
    (served_as_seen c.args.market.now c.args.pair.now c.requires.change.new answer legal c.requires.seen))

pub returns-in_ok-tell_entry-in-Cleared-clause-told : goal.returns-in_ok-tell_entry-in-Cleared-clause-told
returns-in_ok-tell_entry-in-Cleared-clause-told c =
    on_ok c.make-in-Cleared.result
    (λ legal. batch_told c.args.market.now _ _ c.args.pair.now c.args.talk.now _ c.args.served.now.sender c.args.served.now.line c.args.served.now.entry (command_of c.args.command.now)
    (answer_of c.args.seen.now) _ _ (ap answer_of c.in-Cleared.is) c.in_ok-tell_entry-in-Cleared.ensures.market c.requires.seen legal c.in_ok-tell_entry-in-Cleared.ensures.told) c.make-in-Cleared.ensures.legal

pub returns-in_ok-tell_entry-in-Skipped-clause-told : goal.returns-in_ok-tell_entry-in-Skipped-clause-told
returns-in_ok-tell_entry-in-Skipped-clause-told c =
    on_ok c.make-in-Skipped.result
    (λ legal. batch_told c.args.market.now _ _ c.args.pair.now c.args.talk.now _ c.args.served.now.sender c.args.served.now.line c.args.served.now.entry (command_of c.args.command.now)
    (answer_of c.args.seen.now) _ _ (ap answer_of c.in-Skipped.is) c.in_ok-tell_entry-in-Skipped.ensures.market c.requires.seen legal c.in_ok-tell_entry-in-Skipped.ensures.told) c.make-in-Skipped.ensures.legal
