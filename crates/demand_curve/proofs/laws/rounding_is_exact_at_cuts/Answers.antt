use Rattle.demand_curve.proofs.RoundingLaws.{rounding_is_exact_at_cuts}
use Rattle.demand_curve.proofs.laws.rounding_is_exact_at_cuts.Goals as goal

pub returns : goal.returns
returns c = rounding_is_exact_at_cuts
