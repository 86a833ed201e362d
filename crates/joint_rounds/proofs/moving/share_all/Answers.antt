use Rattle.std.proofs.Common.{◌∙◌, get_or, ap, arith}
use Rattle.std.proofs.lemmas.List.{length-set}
use Rattle.std.proofs.lemmas.List.Elements.{All-set}
use Rattle.flow_orders.specs.Orders.{Order}
use Rattle.flow_orders.specs.Excess.{price_for}
use Rattle.joint_prices.specs.OrderStates.{IsShare}
use Rattle.joint_rounds.specs.OrderStates.{OrderState, next}
use Rattle.joint_prices.proofs.Filling.{zipped_more, zipped_all}
use Rattle.joint_rounds.proofs.moving.share_all.Goals as goal

pub loop-i-preserved : goal.loop-i-preserved
loop-i-preserved c =
    let o = c.index-orders-i.result in
    let s = c.index-states-i.result in
    let is = c.share_of-share.ensures.value ∙ ap (λ x. next (price_for c.args.by.now x) s) c.index-orders-i.is ∙ ap (λ x. next (price_for c.args.by.now (get_or c.args.orders.now c.loop-i.i o)) x) c.index-states-i.is in (
      zipped_more (λ (x : Order) (y : OrderState). next (price_for c.args.by.now x) y) c.args.orders.now c.args.states.now c.loop-i.shares _ c.loop-i.i o s c.share_of-share.result c.loop-i-test.true (omega (arith, c.loop-i-test.true, c.requires.room)) (omega (arith, c.loop-i-test.true, c.loop-i.invariant.1)) is c.loop-i.invariant.0,
      length-set _ _ _ ∙ c.loop-i.invariant.1,
      All-set IsShare c.loop-i.shares c.loop-i.i c.share_of-share.result c.share_of-share.ensures.share c.loop-i.invariant.2,
    )

pub returns : goal.returns
returns c = record {
  value = zipped_all (λ (x : Order) (y : OrderState). next (price_for c.args.by.now x) y) c.args.orders.now c.args.states.now c.loop-i.shares _ c.loop-i.i c.loop-i-test.false (omega (arith, c.loop-i-test.false, c.loop-i.invariant.1)) c.loop-i.invariant.0;
  shares = c.loop-i.invariant.2;
}
