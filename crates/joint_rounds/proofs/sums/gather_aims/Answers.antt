use Rattle.std.proofs.Common.{◌*ℤ◌, refl}
use Rattle.joint_rounds.specs.OrderStates.{aim}
use Rattle.joint_rounds.proofs.RowAdding.{light_aim}
use Rattle.joint_rounds.proofs.Gathering.{one_gathered}
use Rattle.joint_rounds.proofs.sums.gather_aims.Goals as goal

pub loop-i-preserved : goal.loop-i-preserved
loop-i-preserved c =
    let z = c.index-states-i.result in
    one_gathered _ _ (λ w. w *ℤ aim z) _ _ _ c.loop-i.i c.loop-i.sums _ _ z c.loop-i-test.true c.requires.count c.index-orders-i.is c.index-states-i.is
    c.add_aim.ensures.order (λ a. refl) (light_aim (aim z) c.add_aim.ensures.aim) c.loop-i.invariant c.add_aim.ensures.sums
