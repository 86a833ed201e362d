use Rattle.std.proofs.Common.{◌≤◌, ◌+◌, arith}
use Rattle.batch_audit.proofs.LawProofs.{pairs_number_one}
use Rattle.journal_words.proofs.JournalLaws.{where_err}
use Rattle.journal_words.proofs.telling.TellingOnPair.legal.Goals as goal

pub returns-in-Ok-clause-next : goal.returns-in-Ok-clause-next
returns-in-Ok-clause-next c =
    where_err c.report_pair.result (c.make.new.self.next_order ≤ c.args.audit.now.next_order + 1)
    (omega (arith, pairs_number_one c.args.audit.now c.args.pair.now c.make.new.self c.in-Ok.ensures.legal))
