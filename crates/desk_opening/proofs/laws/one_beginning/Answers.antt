use Rattle.desk_opening.proofs.OneBeginning.{one_beginning}
use Rattle.desk_opening.proofs.laws.one_beginning.Goals as goal

pub returns : goal.returns
returns c = one_beginning
