use Rattle.demand_curve.proofs.LossLaws.{loss_covers_best_rate_in_parts}
use Rattle.demand_curve.proofs.laws.loss_covers_best_rate_in_parts.Goals as goal

pub returns : goal.returns
returns c = loss_covers_best_rate_in_parts
