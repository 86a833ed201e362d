use Rattle.weight_rows.proofs.RowLawProofs.{weights_are_small}
use Rattle.weight_rows.proofs.laws.weights_are_small.Goals as goal

pub returns : goal.returns
returns c = weights_are_small
