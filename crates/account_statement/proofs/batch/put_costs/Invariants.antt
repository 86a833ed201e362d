use Rattle.std.proofs.Common.{◌≡◌}
use Rattle.flow_orders.specs.Trades.{trades}
use Rattle.account_statement.proofs.Costs.{HasCosts}
use Rattle.account_statement.proofs.batch.put_costs.Given as goal

abbrev pub invariant-loop-place : goal.invariant-loop-place
invariant-loop-place l = (l.out.before ≡ l.fn.out.before) × HasCosts l.prices (trades l.orders l.rates) l.place l.fn.out.text l.out.text l.sum
