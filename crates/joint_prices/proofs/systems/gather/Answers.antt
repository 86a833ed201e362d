use Rattle.std.proofs.Common.{arith}
use Rattle.flow_orders.proofs.Limits.{orders_fit}
use Rattle.joint_prices.proofs.Gathering.{none_gathered, one_gathered, all_gathered}
use Rattle.joint_prices.proofs.systems.gather.Goals as goal

pub loop-i-init : goal.loop-i-init
loop-i-init c = none_gathered _ _ _ _ c.requires.square c.requires.small c.requires.small_sides

pub loop-i-preserved : goal.loop-i-preserved
loop-i-preserved c =
    one_gathered _ _ _ _ c.loop-i.i c.loop-i.grid _ c.loop-i.right _ _ _ c.loop-i-test.true c.requires.count c.index-orders-i.is c.index-order_states-i.is
    c.add_order.ensures.order c.add_order.ensures.aim c.add_order.ensures.slope c.loop-i.invariant c.add_order.ensures.pairs c.add_order.ensures.sides

pub returns : goal.returns
returns c = all_gathered _ _ _ _ c.loop-i.i _ _ c.loop-i-test.false (omega (arith, c.loop-i.auto.i-end, c.requires.few, orders_fit)) c.loop-i.invariant
