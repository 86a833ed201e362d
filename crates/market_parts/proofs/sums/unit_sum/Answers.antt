use Rattle.std.proofs.Common.{◌≡◌, ◌∙◌, ◌<◌, ◌+ℤ◌, to_z, of_z, ap, arith}
use Rattle.std.proofs.lemmas.Int.{to_z-of_z}
use Rattle.std.specs.Int.{w64, w128}
use Rattle.flow_accounts.specs.Balances.{account_count}
use Rattle.market_parts.proofs.Below.{read_value}
use Rattle.market_parts.proofs.Summing.{units_fit, no_units, units_more, all_units, units_small}
use Rattle.market_parts.proofs.sums.unit_sum.Goals as goal

pub overflow_add-sum : goal.overflow_add-sum
overflow_add-sum g c =
    let b = g.P.AccountParts.balances c.args.parts.now in
    let inside : c.loop-place.place < account_count b = omega (arith, c.loop-place-test.true, c.account_count-place-end.ensures) in
    let value = to_z-of_z w128 c.from-sum.result (record { sfits = c.from-sum.type_inv }) ∙ c.from-sum.ensures ∙ to_z-of_z w64 c.unwrap.result (record { sfits = c.unwrap.type_inv }) ∙ read_value _ _ _ _ c.units.ensures c.unwrap.ensures in
    rw value (units_fit b c.requires.lawful c.args.asset c.requires.asset c.loop-place.place _ inside c.loop-place.invariant)

pub loop-place-init : goal.loop-place-init
loop-place-init g c = no_units (g.P.AccountParts.balances c.args.parts.now) c.requires.lawful c.args.asset c.requires.asset

pub loop-place-preserved : goal.loop-place-preserved
loop-place-preserved g c =
    let b = g.P.AccountParts.balances c.args.parts.now in
    let inside : c.loop-place.place < account_count b = omega (arith, c.loop-place-test.true, c.account_count-place-end.ensures) in
    let value = to_z-of_z w128 c.from-sum.result (record { sfits = c.from-sum.type_inv }) ∙ c.from-sum.ensures ∙ to_z-of_z w64 c.unwrap.result (record { sfits = c.unwrap.type_inv }) ∙ read_value _ _ _ _ c.units.ensures c.unwrap.ensures in
    let new = ap (λ z. to_z w128 c.loop-place.sum-bits +ℤ z) value in
    let fits = to_z-of_z w128 (to_z w128 c.loop-place.sum-bits +ℤ to_z w128 (of_z w128 c.from-sum.result)) (rw value (units_fit b c.requires.lawful c.args.asset c.requires.asset c.loop-place.place _ inside c.loop-place.invariant)) in
    units_more b c.requires.lawful c.args.asset c.requires.asset c.loop-place.place _ _ inside c.loop-place.invariant (fits ∙ new)

pub returns-clause-sum : goal.returns-clause-sum
returns-clause-sum g c =
    let b = g.P.AccountParts.balances c.args.parts.now in
    let all : c.loop-place.place ≡ account_count b = omega (arith, c.loop-place-test.false, c.loop-place.auto.place-end, c.account_count-place-end.ensures) in
    all_units b c.requires.lawful c.args.asset c.requires.asset _ (rw all at c.loop-place.invariant)

pub returns-clause-fits : goal.returns-clause-fits
returns-clause-fits g c =
    let b = g.P.AccountParts.balances c.args.parts.now in
    let all : c.loop-place.place ≡ account_count b = omega (arith, c.loop-place-test.false, c.loop-place.auto.place-end, c.account_count-place-end.ensures) in
    units_small b c.requires.lawful c.args.asset c.requires.asset _ (rw all at c.loop-place.invariant)
