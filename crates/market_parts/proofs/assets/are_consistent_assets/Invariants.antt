use Rattle.std.proofs.Common.{ℕ, ◌<◌}
use Rattle.market_parts.specs.Tests.{IsConsistentAsset}
use Rattle.market_parts.proofs.assets.are_consistent_assets.Given as goal

abbrev pub invariant-loop-asset : goal.invariant-loop-asset
invariant-loop-asset g l = (k : ℕ) → k < l.asset → IsConsistentAsset (g.P.AccountParts.balances l.parts) (g.P.MarketParts.parts l.parts) k
