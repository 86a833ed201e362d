use Rattle.std.proofs.Common.{length}
use Rattle.flow_orders.specs.Trades.{trades}
use Rattle.order_book.proofs.TradeLoops.{IsLoweredTo}
use Rattle.order_book.proofs.fill.lower_traded.Given as goal

abbrev pub invariant-loop-order : goal.invariant-loop-order
invariant-loop-order l = IsLoweredTo (trades l.orders l.rates) l.initial.sums.table l.sums.table (length l.yielded)
