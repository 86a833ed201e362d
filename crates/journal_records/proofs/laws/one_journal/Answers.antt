use Rattle.journal_records.proofs.Files.{one_journal}
use Rattle.journal_records.proofs.laws.one_journal.Goals as goal

pub returns : goal.returns
returns c = one_journal
