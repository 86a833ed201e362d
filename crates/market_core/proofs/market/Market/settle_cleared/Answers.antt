use Rattle.std.proofs.Common.{◌≡◌, ◌+◌, ap, subst, sym, ◌∙◌}
use Rattle.batch_outcome.specs.Published.{clearing_of}
use Rattle.flow_orders.specs.Outcomes as outcomes
use Rattle.flow_orders.specs.Trades.{going_on}
use Rattle.market_rules.specs.Market.{IsConsistent}
use Rattle.market_rules.specs.Step.{after_batch}
use Rattle.market_rules.specs.Settling.{MaySettleAt}
use Rattle.market_core.specs.Kept.{market_in}
use Rattle.market_core.proofs.MarketSettled.{changed, roundings, within_rooms, settled_is, settled_is_consistent}
use Rattle.market_core.proofs.market.Market.settle_cleared.Goals as goal

pub settle-requires-clause-roundings : goal.settle-requires-clause-roundings
settle-requires-clause-roundings c =
    let may : MaySettleAt (market_in c.self.inside) c.args.cleared.now = rw (← c.self.view_is) at c.requires.right in
    rw (c.orders.ensures.value, c.as_slice-rates.ensures, c.as_slice-prices.ensures) (roundings (market_in c.self.inside) c.args.cleared.now c.self.invariant may)

pub fill-requires-clause-within : goal.fill-requires-clause-within
fill-requires-clause-within c =
    let may : MaySettleAt (market_in c.self.inside) c.args.cleared.now = rw (← c.self.view_is) at c.requires.right in
    rw (c.orders.follows.holds-at-none.orders, c.as_slice-rates.ensures) (within_rooms (market_in c.self.inside) c.args.cleared.now c.self.invariant may)

made : (c : goal.After-self-3-1) → changed (market_in c.self.inside) c.settle.new.accounts c.settle.new.exchange c.end.new.self.orders c.set.new.self ≡ after_batch (market_in c.self.inside) (outcomes.Cleared (clearing_of (market_in c.self.inside).orders c.args.cleared.now))
made c =
    let may : MaySettleAt (market_in c.self.inside) c.args.cleared.now = rw (← c.self.view_is) at c.requires.right in
    settled_is (market_in c.self.inside) c.args.cleared.now c.self.invariant may c.settle.new.accounts c.settle.new.exchange c.end.new.self.orders c.set.new.self
    (rw (c.orders.ensures.value, c.as_slice-rates.ensures, c.as_slice-prices.ensures) at c.settle.ensures.accounts)
    (rw (c.orders.ensures.value, c.as_slice-rates.ensures, c.as_slice-prices.ensures) at c.settle.ensures.exchange)
    (c.end.ensures.orders ∙ ap (going_on (c.self.inside.batches + 1)) (rw (c.orders.follows.holds-at-none.orders, c.as_slice-rates.ensures) at c.fill.ensures.orders))
    (rw c.as_slice-prices.ensures at c.set.ensures)

pub invariant_of-self : goal.invariant_of-self
invariant_of-self c =
    let may : MaySettleAt (market_in c.self.inside) c.args.cleared.now = rw (← c.self.view_is) at c.requires.right in
    subst IsConsistent (sym (made c)) (settled_is_consistent (market_in c.self.inside) c.args.cleared.now c.self.invariant may (rw (← c.self.view_is) at c.requires.more))

pub returns : goal.returns
returns c = rw (← c.self.view_is) (made c)
