use Rattle.std.proofs.Common.{◌∙◌, ◌<◌, to_z, of_z, length, sym, arith}
use Rattle.std.proofs.lemmas.Int.{to_z-of_z}
use Rattle.std.specs.Int.{w64}
use Rattle.market_parts.proofs.Making.{units_joined, all_units_joined}
use Rattle.market_parts.proofs.assets.exchange_of.Goals as goal

pub loop-asset-preserved : goal.loop-asset-preserved
loop-asset-preserved g c =
    let exchange = (g.P.MarketParts.parts c.args.parts.now).exchange in
    let inside : c.loop-asset.asset < length exchange.units = omega (arith, c.loop-asset-test.true, c.asset_count-asset-end.ensures.count, c.requires.shape.exchange) in
    units_joined exchange c.loop-asset.asset c.loop-asset.exchange c.add_asset.new.self c.add.new.self c.unwrap.result (to_z w64 (of_z w64 c.unwrap.result)) inside (sym c.exchange_units.ensures ∙ c.unwrap.ensures) (to_z-of_z w64 c.unwrap.result (record { sfits = c.unwrap.type_inv })) c.loop-asset.invariant c.add_asset.ensures c.add.ensures.added

pub returns : goal.returns
returns g c =
    let exchange = (g.P.MarketParts.parts c.args.parts.now).exchange in
    all_units_joined exchange c.loop-asset.asset c.loop-asset.exchange (omega (arith, c.loop-asset-test.false, c.asset_count-asset-end.ensures.count, c.requires.shape.exchange)) c.loop-asset.invariant
