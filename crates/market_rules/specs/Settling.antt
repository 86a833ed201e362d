-- Which outcomes of a batch can be settled in a market.
use Rattle.std.specs.Prelude.{◌≡◌, length}
use Rattle.flow_orders.specs.Outcomes.{IsAdmissibleClearing}
use Rattle.batch_outcome.specs.declared.outcome.Cleared.{Cleared}
use Rattle.batch_outcome.specs.declared.outcome.Outcome.{Outcome}
use Rattle.batch_outcome.specs.declared.outcome.Outcome.TheVariants as parts
use Rattle.batch_outcome.specs.Published.{clearing_of}
use Rattle.market_rules.specs.Market.{Market, start_prices}

-- a clearing has one rate for each live order, and is admissible for these orders and the start prices
pub record MaySettleAt (m : Market) (c : Cleared) : Type 0 where
  pub one_rate_each : length c.rates ≡ length m.orders
  pub right : IsAdmissibleClearing m.orders (start_prices m) (clearing_of m.orders c)

-- an outcome can be settled: an admissible clearing with one rate for each live order, or any skip
abbrev pub MaySettle : Market → Outcome → Type 0
MaySettle m (parts.Cleared c) = MaySettleAt m c
MaySettle m (parts.Skipped s) = Unit {0}
