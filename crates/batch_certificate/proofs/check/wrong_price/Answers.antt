use Rattle.std.proofs.Common.{pos, arith}
use Rattle.std.proofs.lemmas.List.{ext_get_or}
use Rattle.batch_certificate.proofs.check.wrong_price.Goals as goal

pub returns-clause-prices : goal.returns-clause-prices
returns-clause-prices g c =
    ext_get_or (pos 0) _ _ c.loop-asset.invariant.places (λ k inside. c.loop-asset.invariant.copied k (omega (arith, inside, c.loop-asset.invariant.places, c.loop-asset-test.false)))
