use Rattle.kept_laws.proofs.Promised.{some_kept_journal}
use Rattle.kept_laws.proofs.some_kept_journal.Goals as goal

pub returns : goal.returns
returns c = some_kept_journal
