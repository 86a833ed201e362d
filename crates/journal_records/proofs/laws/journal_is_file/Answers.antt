use Rattle.journal_records.proofs.Files.{journal_is_file}
use Rattle.journal_records.proofs.laws.journal_is_file.Goals as goal

pub returns : goal.returns
returns c = journal_is_file
