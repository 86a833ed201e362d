use Rattle.demand_curve.proofs.LossLaws.{loss_is_zero_at_demand}
use Rattle.demand_curve.proofs.laws.loss_is_zero_at_demand.Goals as goal

pub returns : goal.returns
returns c = loss_is_zero_at_demand
