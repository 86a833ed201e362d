use Rattle.weight_rows.proofs.RowLawProofs.{entries_give_weights}
use Rattle.weight_rows.proofs.laws.entries_give_weights.Goals as goal

pub returns : goal.returns
returns c = entries_give_weights
