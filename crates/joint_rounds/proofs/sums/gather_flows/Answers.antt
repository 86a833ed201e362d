use Rattle.std.proofs.Common.{◌*ℤ◌, pos, refl}
use Rattle.flow_orders.specs.Excess.{price_for}
use Rattle.joint_prices.specs.Numbers.{scaled}
use Rattle.joint_rounds.proofs.RowAdding.{light_row}
use Rattle.joint_rounds.proofs.Gathering.{one_gathered}
use Rattle.joint_rounds.proofs.sums.gather_flows.Goals as goal

pub loop-i-preserved : goal.loop-i-preserved
loop-i-preserved c =
    let o = c.index-orders-i.result in
    let z = c.index-states-i.result in
    let y = scaled (price_for c.args.flat.now o *ℤ pos z.slope) (pos 28) in
    one_gathered _ _ (λ w. w *ℤ y) _ _ _ c.loop-i.i c.loop-i.sums _ o z c.loop-i-test.true c.requires.count c.index-orders-i.is c.index-states-i.is
    c.add_flow.ensures.order (λ a. refl) (light_row y c.add_flow.ensures.flow) c.loop-i.invariant c.add_flow.ensures.sums
