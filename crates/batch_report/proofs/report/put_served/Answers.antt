use Rattle.std.proofs.Common.{refl}
use Rattle.wire_records.specs.CommandRecords.{record_of}
use Rattle.wire_records.specs.Views.{command_of}
use Rattle.journal_records.specs.Replies.{answer_record}
use Rattle.journal_records.specs.Views.{answer_of}
use Rattle.pair_text.proofs.Joining.{on_ok}
use Rattle.batch_report.specs.Private.{told_text}
use Rattle.batch_report.proofs.Answered.{told_tells, reported}
use Rattle.batch_report.proofs.report.put_served.Goals as goal

pub returns-clause-put : goal.returns-clause-put
returns-clause-put c =
    let market = c.args.market.now in
    let command = command_of c.args.command.now in
    let answer = answer_of c.args.answer.now in
    let tells = told_tells c.requires.served.0 market (record_of command) answer command (record { fits = c.requires.fits.0; encoded = refl }) c.requires.served.1 in
    on_ok c.put_told.result
    (λ put. reported market c.args.number (record_of command, answer_record answer) answer (told_text market.tickers command answer) c.args.out.now.text c.put_number.new.self.text c.put.new.self.text c.put_told.new.out.text
    (record { fits = c.requires.fits.1; encoded = refl }) tells c.in_ok-put_number.ensures.put c.in_ok-put.ensures.put put)
    (rw c.tickers.ensures.value at c.put_told.ensures.put)
