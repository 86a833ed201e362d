use Rattle.demand_curve.proofs.Parts.{parts_never_rise}
use Rattle.demand_curve.proofs.laws.parts_never_rise.Goals as goal

pub returns : goal.returns
returns c = parts_never_rise
