-- The outcome of a batch of orders that the published values are.
use Rattle.std.specs.Prelude.{◌≡◌, List, map, length}
use Rattle.flow_orders.specs.Orders.{Order}
use Rattle.flow_orders.specs.Trades.{trades}
use Rattle.flow_orders.specs.Outcomes.{Clearing, Skipping, fill_of}
use Rattle.flow_orders.specs.Outcomes as outcomes
use Rattle.batch_outcome.specs.declared.outcome.Cleared.{Cleared}
use Rattle.batch_outcome.specs.declared.outcome.Skipped.{Skipped}
use Rattle.batch_outcome.specs.declared.outcome.Outcome.{Outcome}
use Rattle.batch_outcome.specs.declared.outcome.Outcome.TheVariants as parts

-- the clearing of these orders: each rate is that of the order at its place
abbrev pub clearing_of : List Order → Cleared → Clearing
clearing_of orders c = record { prices = c.prices; fills = map fill_of (trades orders c.rates); residuals = c.residuals; gap = c.gap }

-- the skip
abbrev pub skipping_of : Skipped → Skipping
skipping_of s = record { trace = s.trace; start_dual = s.start_dual; end_dual = s.end_dual }

-- the outcome of a batch of these orders
abbrev pub outcome_of : List Order → Outcome → outcomes.Outcome
outcome_of orders (parts.Cleared c) = outcomes.Cleared (clearing_of orders c)
outcome_of orders (parts.Skipped s) = outcomes.Skipped (skipping_of s)

-- a clearing has one rate for each order
abbrev pub HasOneRateEach : List Order → Outcome → Type 0
HasOneRateEach orders (parts.Cleared c) = length c.rates ≡ length orders
HasOneRateEach orders (parts.Skipped s) = Unit {0}
