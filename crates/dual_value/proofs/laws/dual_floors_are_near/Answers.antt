use Rattle.dual_value.proofs.Near.{dual_floors_are_near}
use Rattle.dual_value.proofs.laws.dual_floors_are_near.Goals as goal

pub returns : goal.returns
returns c = dual_floors_are_near
