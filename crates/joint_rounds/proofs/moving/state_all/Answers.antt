use Rattle.std.proofs.Common.{◌∙◌, get_or, ap, arith}
use Rattle.std.proofs.lemmas.List.{length-set}
use Rattle.joint_rounds.specs.OrderStates.{order_state}
use Rattle.joint_prices.proofs.Filling.{zipped_more, zipped_all}
use Rattle.joint_rounds.proofs.moving.state_all.Goals as goal

pub loop-i-preserved : goal.loop-i-preserved
loop-i-preserved c =
    let o = c.index-orders-i.result in
    let is = c.state_of.ensures ∙ ap (λ x. order_state c.args.s c.args.prices.now x (get_or c.args.shares.now c.loop-i.i 0)) c.index-orders-i.is in (
      zipped_more (order_state c.args.s c.args.prices.now) c.args.orders.now c.args.shares.now c.loop-i.states _ c.loop-i.i o 0 c.state_of.result c.loop-i-test.true (omega (arith, c.loop-i-test.true, c.requires.count)) (omega (arith, c.loop-i-test.true, c.loop-i.invariant.1)) is c.loop-i.invariant.0,
      length-set _ _ _ ∙ c.loop-i.invariant.1,
    )

pub returns : goal.returns
returns c =
    zipped_all (order_state c.args.s c.args.prices.now) c.args.orders.now c.args.shares.now c.loop-i.states _ c.loop-i.i c.loop-i-test.false (omega (arith, c.loop-i-test.false, c.loop-i.invariant.1)) c.loop-i.invariant.0
