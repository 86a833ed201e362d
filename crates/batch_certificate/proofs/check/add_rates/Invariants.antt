use Rattle.std.proofs.Common.{length}
use Rattle.flow_orders.specs.Trades.{trades}
use Rattle.batch_certificate.specs.Verdicts.{HoldsBelow, IsRateRight}
use Rattle.batch_outcome.specs.Parts.{rates_in}
use Rattle.batch_certificate.proofs.Sums.{AreSummed}
use Rattle.batch_certificate.proofs.check.add_rates.Given as goal

abbrev pub invariant-loop-place : goal.invariant-loop-place
invariant-loop-place g l =
    let c = g.P.ClearedParts.clearing l.parts in
    record {
      summed : AreSummed (length l.prices) l.prices (trades l.orders (rates_in c)) l.place l.residuals l.lost;
      right : HoldsBelow (IsRateRight l.orders c) l.place;
    }
