use Rattle.flow_orders.proofs.WalkLaws.{admissible_skips_lower_the_dual}
use Rattle.flow_orders.proofs.laws.admissible_skips_lower_the_dual.Goals as goal

pub returns : goal.returns
returns c = admissible_skips_lower_the_dual
