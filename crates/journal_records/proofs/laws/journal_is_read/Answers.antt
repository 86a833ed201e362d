use Rattle.journal_records.proofs.Files.{journal_is_read}
use Rattle.journal_records.proofs.laws.journal_is_read.Goals as goal

pub returns : goal.returns
returns c = journal_is_read
