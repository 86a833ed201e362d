use Rattle.std.proofs.Common.{◌∙◌, refl, arith}
use Rattle.std.proofs.lemmas.Int.{to_z-of_z}
use Rattle.std.specs.Int.{w64}
use Rattle.flow_accounts.specs.Balances.{units_of, unit_credit_of}
use Rattle.market_parts.specs.Tests.{AreConsistentUnits}
use Rattle.market_parts.proofs.Below.{one_more, refuted, read_value}
use Rattle.market_parts.proofs.accounts.has_consistent_units.Goals as goal

pub loop-asset-preserved : goal.loop-asset-preserved
loop-asset-preserved g c =
    let b = g.P.AccountParts.balances c.args.parts.now in
    let units = to_z-of_z w64 c.unwrap-units.result (record { sfits = c.unwrap-units.type_inv }) ∙ read_value _ _ _ _ c.units.ensures c.unwrap-units.ensures in
    let credit = read_value _ _ _ _ c.unit_credit.ensures c.unwrap-credit.ensures in
    one_more (λ k. AreConsistentUnits c.args.most (units_of b c.args.account k) (unit_credit_of b c.args.account k)) c.loop-asset.asset c.loop-asset.invariant (rw (units, credit) at (c.are_consistent_units.ensures.0 c.if-not-are_consistent_units.false))

pub returns-then-not-are_consistent_units : goal.returns-then-not-are_consistent_units
returns-then-not-are_consistent_units g c =
    let units = to_z-of_z w64 c.unwrap-units.result (record { sfits = c.unwrap-units.type_inv }) ∙ read_value _ _ _ _ c.units.ensures c.unwrap-units.ensures in
    let credit = read_value _ _ _ _ c.unit_credit.ensures c.unwrap-credit.ensures in
    refuted c.are_consistent_units.ensures c.if-not-are_consistent_units.true (λ all. rw (units, credit) (all c.loop-asset.asset (omega (arith, c.loop-asset-test.true, c.asset_count-asset-end.ensures.count))))

pub returns : goal.returns
returns g c = (λ _ asset there. c.loop-asset.invariant asset (omega (arith, there, c.loop-asset-test.false, c.asset_count-asset-end.ensures.count)), λ _. refl)
