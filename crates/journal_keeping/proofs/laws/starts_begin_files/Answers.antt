use Rattle.journal_keeping.proofs.ShortCheckpoints.{starts_begin_files}
use Rattle.journal_keeping.proofs.laws.starts_begin_files.Goals as goal

pub returns : goal.returns
returns c = starts_begin_files
