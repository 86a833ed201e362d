use Rattle.std.proofs.Common.{◌∙◌, ◌<◌, ◌≤◌, pos, length, sym, arith}
use Rattle.std.specs.Int.{w64}
use Rattle.std.proofs.lemmas.Int.{to_z-of_z}
use Rattle.std.proofs.lemmas.Option.{get_or_from_slice_get, slice_get-get_or}
use Rattle.flow_accounts.proofs.Restoring.{place_filled}
use Rattle.flow_accounts.specs.Lawful.{most_assets}
use Rattle.market_parts.proofs.Making.{some_of}
use Rattle.market_core.proofs.prices.prices_of.Goals as goal

pub unwrap-requires : goal.unwrap-requires
unwrap-requires g c =
    let prices = (g.P.MarketParts.parts c.args.parts.now).last_prices in
    some_of _ _ (c.last_price.ensures ∙ slice_get-get_or prices c.loop-asset.asset (pos 0) (omega (arith, c.loop-asset-test.true, c.asset_count-asset-end.ensures.count, c.requires.shape.prices)))

pub loop-asset-preserved : goal.loop-asset-preserved
loop-asset-preserved g c =
    let prices = (g.P.MarketParts.parts c.args.parts.now).last_prices in
    let inside : c.loop-asset.asset < length prices = omega (arith, c.loop-asset-test.true, c.asset_count-asset-end.ensures.count, c.requires.shape.prices) in
    let few : length prices ≤ most_assets = omega (arith, c.requires.few, c.requires.shape.prices) in
    let value = sym (get_or_from_slice_get prices c.loop-asset.asset c.unwrap.result (pos 0) (sym c.last_price.ensures ∙ c.unwrap.ensures)) in
    rw (to_z-of_z w64 c.unwrap.result (record { sfits = c.unwrap.type_inv }), c.from.ensures)
    (place_filled c.loop-asset.asset prices c.loop-asset.prices c.unwrap.result inside few value c.loop-asset.invariant)
