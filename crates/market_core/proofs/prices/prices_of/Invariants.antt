use Rattle.flow_accounts.specs.Parts.{ArePlacesOf}
use Rattle.market_core.proofs.prices.prices_of.Given as goal

abbrev pub invariant-loop-asset : goal.invariant-loop-asset
invariant-loop-asset g l = ArePlacesOf l.asset (g.P.MarketParts.parts l.parts).last_prices l.prices
