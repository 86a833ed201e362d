use Rattle.std.proofs.Common.{length}
use Rattle.flow_orders.specs.Trades.{trades}
use Rattle.batch_certificate.proofs.Sums.{AreAdded}
use Rattle.batch_certificate.proofs.certificate.add_trades.Given as goal

abbrev pub invariant-loop-place : goal.invariant-loop-place
invariant-loop-place l = AreAdded (length l.fn.residuals) (trades l.orders l.rates) l.place l.residuals
