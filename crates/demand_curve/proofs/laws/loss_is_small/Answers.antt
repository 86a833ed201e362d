use Rattle.demand_curve.proofs.LossLaws.{loss_is_small}
use Rattle.demand_curve.proofs.laws.loss_is_small.Goals as goal

pub returns : goal.returns
returns c = loss_is_small
