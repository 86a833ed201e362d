use Rattle.demand_curve.proofs.LossLaws.{loss_covers_best_rate}
use Rattle.demand_curve.proofs.laws.loss_covers_best_rate.Goals as goal

pub returns : goal.returns
returns c = loss_covers_best_rate
