use Rattle.std.proofs.Common.{◌≡◌, take}
use Rattle.market_parts.proofs.assets.exchange_of.Given as goal

abbrev pub invariant-loop-asset : goal.invariant-loop-asset
invariant-loop-asset g l =
    let exchange = (g.P.MarketParts.parts l.parts).exchange in
    l.exchange ≡ record { money = exchange.money; units = take l.asset exchange.units }
