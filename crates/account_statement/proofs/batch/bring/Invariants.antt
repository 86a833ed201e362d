use Rattle.std.proofs.Common.{length}
use Rattle.flow_orders.specs.Trades.{trades}
use Rattle.account_statement.proofs.Costs.{AreBrought}
use Rattle.account_statement.proofs.batch.bring.Given as goal

abbrev pub invariant-loop-place : goal.invariant-loop-place
invariant-loop-place l = AreBrought (length l.fn.brought) (trades l.orders l.rates) l.place l.brought
