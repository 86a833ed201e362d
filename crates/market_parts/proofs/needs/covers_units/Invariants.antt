use Rattle.std.proofs.Common.{ℕ, ◌<◌, ◌≤ℤ◌}
use Rattle.flow_accounts.specs.Balances.{units_with_credit}
use Rattle.flow_orders.specs.Orders.{needed_units}
use Rattle.market_parts.proofs.needs.covers_units.Given as goal

abbrev pub invariant-loop-asset : goal.invariant-loop-asset
invariant-loop-asset l = (k : ℕ) → k < l.asset → needed_units l.book.orders l.account k ≤ℤ units_with_credit l.accounts l.account k
