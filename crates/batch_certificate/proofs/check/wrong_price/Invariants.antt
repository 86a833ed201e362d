use Rattle.std.proofs.Common.{◌≡◌, length, get_or, pos}
use Rattle.batch_certificate.specs.Verdicts.{HoldsBelow}
use Rattle.batch_certificate.specs.Weighing.{IsPriceKept}
use Rattle.batch_certificate.proofs.check.wrong_price.Given as goal

abbrev pub invariant-loop-asset : goal.invariant-loop-asset
invariant-loop-asset g l =
    let c = g.P.ClearedParts.clearing l.parts in
    record {
      before : HoldsBelow (IsPriceKept l.spreads l.start c) l.asset;
      places : length l.prices ≡ length c.prices;
      copied : HoldsBelow (λ k. get_or l.prices k (pos 0) ≡ get_or c.prices k (pos 0)) l.asset;
    }
