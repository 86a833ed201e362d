use Rattle.std.proofs.Common.{refl, arith}
use Rattle.market_parts.specs.Tests.{IsConsistentAsset}
use Rattle.market_parts.proofs.Below.{one_more, refuted}
use Rattle.market_parts.proofs.assets.are_consistent_assets.Goals as goal

pub loop-asset-preserved : goal.loop-asset-preserved
loop-asset-preserved g c = one_more (λ k. IsConsistentAsset (g.P.AccountParts.balances c.args.parts.now) (g.P.MarketParts.parts c.args.parts.now) k) c.loop-asset.asset c.loop-asset.invariant (c.is_consistent_asset.ensures.0 c.if-not-is_consistent_asset.false)

pub returns-then-not-is_consistent_asset : goal.returns-then-not-is_consistent_asset
returns-then-not-is_consistent_asset g c = refuted c.is_consistent_asset.ensures c.if-not-is_consistent_asset.true (λ all. all c.loop-asset.asset (omega (arith, c.loop-asset-test.true, c.asset_count-asset-end.ensures.count)))

pub returns : goal.returns
returns g c = (λ _ asset there. c.loop-asset.invariant asset (omega (arith, there, c.loop-asset-test.false, c.asset_count-asset-end.ensures.count)), λ _. refl)
