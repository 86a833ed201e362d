use Rattle.std.proofs.Common.{◌∙◌, refl, arith}
use Rattle.std.proofs.lemmas.Int.{to_z-of_z}
use Rattle.std.specs.Int.{w64}
use Rattle.flow_accounts.specs.Balances.{total_units_of}
use Rattle.flow_accounts.specs.Lawful.{IsUnitTotal}
use Rattle.market_parts.proofs.Below.{one_more, refuted, read_value}
use Rattle.market_parts.proofs.accounts.are_unit_totals.Goals as goal

pub loop-asset-preserved : goal.loop-asset-preserved
loop-asset-preserved g c =
    let value = to_z-of_z w64 c.unwrap.result (record { sfits = c.unwrap.type_inv }) ∙ read_value _ _ _ _ c.total_units.ensures c.unwrap.ensures in
    one_more (λ k. IsUnitTotal (total_units_of (g.P.AccountParts.balances c.args.parts.now) k)) c.loop-asset.asset c.loop-asset.invariant (rw value at (c.is_unit_total.ensures.0 c.if-not-is_unit_total.false))

pub returns-then-not-is_unit_total : goal.returns-then-not-is_unit_total
returns-then-not-is_unit_total g c =
    let value = to_z-of_z w64 c.unwrap.result (record { sfits = c.unwrap.type_inv }) ∙ read_value _ _ _ _ c.total_units.ensures c.unwrap.ensures in
    refuted c.is_unit_total.ensures c.if-not-is_unit_total.true (λ all. rw value (all c.loop-asset.asset (omega (arith, c.loop-asset-test.true, c.asset_count-asset-end.ensures.count))))

pub returns : goal.returns
returns g c = (λ _ asset there. c.loop-asset.invariant asset (omega (arith, there, c.loop-asset-test.false, c.asset_count-asset-end.ensures.count)), λ _. refl)
