use Rattle.flow_orders.proofs.WalkLaws.{admissible_clearings_are_optimal}
use Rattle.flow_orders.proofs.laws.admissible_clearings_are_optimal.Goals as goal

pub returns : goal.returns
returns c = admissible_clearings_are_optimal
