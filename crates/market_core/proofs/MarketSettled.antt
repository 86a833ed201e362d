-- The market after a clearing that it may settle.
use Rattle.std.proofs.Common.{◌≡◌, ◌+◌, ◌≤◌, ◌<◌, ℤ, List, refl, ap, sym, subst, ◌∙◌}
use Rattle.std.specs.Prelude.{All, slice_index_or}
use Rattle.demand_curve.specs.Demand.{IsRounding}
use Rattle.demand_curve.proofs.RoundingLaws.{rounding_is_within_room}
use Rattle.flow_accounts.specs.Balances.{Account, Balances}
use Rattle.flow_orders.specs.Orders.{Order, terms_of}
use Rattle.flow_orders.specs.Excess.{price_for}
use Rattle.flow_orders.specs.Trades.{Trade, trades, staying, going_on}
use Rattle.flow_orders.specs.Outcomes.{trades_of}
use Rattle.flow_orders.specs.Outcomes as outcomes
use Rattle.flow_orders.proofs.TradeFacts.{All-trades, rates_back}
use Rattle.batch_outcome.specs.declared.outcome.Cleared.{Cleared}
use Rattle.batch_outcome.specs.Published.{clearing_of}
use Rattle.fill_caps.specs.Settlement.{settled_balances, settled_exchange}
use Rattle.market_rules.specs.Market.{Market, IsConsistent, IsLiveOrder}
use Rattle.wire_records.specs.Limits.{limits_of}
use Rattle.market_rules.specs.Step.{after_batch}
use Rattle.market_rules.specs.Settling.{MaySettleAt}
use Rattle.market_rules.proofs.ConsistentBatch.{consistent_settled}

-- a market with other balances, exchange, orders and last prices, and one batch more
abbrev pub changed : Market → Balances → Account → List Order → List ℤ → Market
changed m b exchange orders prices = record m { balances = b; exchange = exchange; orders = orders; batches = m.batches + 1; last_prices = prices }

module _ (m : Market) (c : Cleared) (consistent : IsConsistent m) (may : MaySettleAt m c) where
  abbrev ts : List Trade
  ts = trades m.orders c.rates

  back : trades_of m.orders (clearing_of m.orders c).fills ≡ ts
  back = ap (trades m.orders) (rates_back m.orders c.rates may.one_rate_each)

  -- the rates are roundings, and so within the batch maxima
  pub roundings : All (λ t. IsRounding (terms_of t.order) t.traded (price_for c.prices t.order)) ts
  roundings = subst (All (λ t. IsRounding (terms_of t.order) t.traded (price_for c.prices t.order))) back may.right.roundings

  pub within_rooms : All (λ t. t.traded ≤ (terms_of t.order).room) ts
  within_rooms k d inside =
      let t = slice_index_or ts k d in
      let live = All-trades (IsLiveOrder m) m.orders c.rates consistent.live k d inside in
      rounding_is_within_room (terms_of t.order) live.order.terms (price_for c.prices t.order) t.traded (roundings k d inside)

  -- what the code makes is the market after the batch, which is consistent
  pub settled_is : (b : Balances) (exchange : Account) (orders : List Order) (prices : List ℤ)
      → b ≡ settled_balances c.prices ts m.balances → exchange ≡ settled_exchange c.prices ts m.balances m.exchange → orders ≡ going_on (m.batches + 1) (staying ts) → prices ≡ c.prices
      → changed m b exchange orders prices ≡ after_batch m (outcomes.Cleared (clearing_of m.orders c))
  settled_is b exchange orders prices balances_are exchange_is orders_are prices_are =
      ap (λ x. changed m x exchange orders prices) balances_are
      ∙ ap (λ x. changed m (settled_balances c.prices ts m.balances) x orders prices) exchange_is
      ∙ ap (λ x. changed m (settled_balances c.prices ts m.balances) (settled_exchange c.prices ts m.balances m.exchange) x prices) orders_are
      ∙ ap (λ x. changed m (settled_balances c.prices ts m.balances) (settled_exchange c.prices ts m.balances m.exchange) (going_on (m.batches + 1) (staying ts)) x) prices_are
      ∙ ap (λ us. changed m (settled_balances c.prices us m.balances) (settled_exchange c.prices us m.balances m.exchange) (going_on (m.batches + 1) (staying us)) c.prices) (sym back)

  pub settled_is_consistent : m.batches < (limits_of m.version).batches → IsConsistent (after_batch m (outcomes.Cleared (clearing_of m.orders c)))
  settled_is_consistent more = consistent_settled m (clearing_of m.orders c) (trades_of m.orders (clearing_of m.orders c).fills) refl consistent may.right more
