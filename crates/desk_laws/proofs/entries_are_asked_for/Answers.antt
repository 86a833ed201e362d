use Rattle.desk_laws.proofs.Owned.{entries_are_asked_for}
use Rattle.desk_laws.proofs.entries_are_asked_for.Goals as goal

pub returns : goal.returns
returns c = entries_are_asked_for
