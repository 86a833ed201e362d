use Rattle.std.proofs.Common.{◌*ℤ◌, pos, length, refl, arith}
use Rattle.std.specs.Prelude.{◌/◌}
use Rattle.joint_rounds.proofs.RowAdding.{light_square}
use Rattle.joint_rounds.proofs.Gathering.{one_gathered}
use Rattle.joint_rounds.proofs.sums.gather_sizes.Goals as goal

pub loop-i-preserved : goal.loop-i-preserved
loop-i-preserved c =
    let o = c.index-orders-i.result in
    let z = c.index-states-i.result in
    let y = pos (z.slope / length o.row) in
    one_gathered _ _ (λ w. w *ℤ (w *ℤ y)) _ _ _ c.loop-i.i c.loop-i.sums _ o z c.loop-i-test.true c.requires.count c.index-orders-i.is c.index-states-i.is
    c.add_size.ensures.order (λ a. refl) (light_square y (omega (arith, c.add_size.ensures.slope))) c.loop-i.invariant c.add_size.ensures.sums
