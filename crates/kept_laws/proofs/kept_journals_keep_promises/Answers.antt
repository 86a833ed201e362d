use Rattle.kept_laws.proofs.Promised.{kept_journals_keep_promises}
use Rattle.kept_laws.proofs.kept_journals_keep_promises.Goals as goal

pub returns : goal.returns
returns c = kept_journals_keep_promises
