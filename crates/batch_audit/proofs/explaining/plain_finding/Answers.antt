use Rattle.wire_records.specs.Views.{command_of}
use Rattle.journal_records.specs.Views.{answer_of}
use Rattle.batch_audit.proofs.Found.{gets_expected, reply_found}
use Rattle.batch_audit.proofs.explaining.plain_finding.Goals as goal

pub returns : goal.returns
returns c = λ pair read encoded.
    reply_found c.args.market.now pair (answer_of c.args.seen.now) encoded c.expected.result _
    (gets_expected c.args.market.now pair.0 (command_of c.args.command.now) c.expected.result c.requires.no_batch read c.expected.ensures)
    c.reply_finding.ensures
