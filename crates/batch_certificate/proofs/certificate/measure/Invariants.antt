use Rattle.flow_orders.specs.Trades.{trades}
use Rattle.batch_certificate.proofs.Sums.{AreLost}
use Rattle.batch_certificate.proofs.certificate.measure.Given as goal

abbrev pub invariant-loop-place : goal.invariant-loop-place
invariant-loop-place l = AreLost l.prices (trades l.orders l.rates) l.place l.lost
