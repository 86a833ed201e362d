use Rattle.std.proofs.Common.{◌≡◌, take}
use Rattle.ticker_table.specs.Tickers.{AreTickers}
use Rattle.market_parts.proofs.tickers.tickers_of.Given as goal

abbrev pub invariant-loop-asset : goal.invariant-loop-asset
invariant-loop-asset g l = record {
  taken : l.tickers ≡ take l.asset (g.P.MarketParts.parts l.parts).tickers;
  valid : AreTickers (take l.asset (g.P.MarketParts.parts l.parts).tickers);
}
