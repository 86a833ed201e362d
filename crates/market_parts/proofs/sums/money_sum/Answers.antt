use Rattle.std.proofs.Common.{◌≡◌, ◌∙◌, ◌<◌, ◌+ℤ◌, to_z, of_z, ap, arith}
use Rattle.std.proofs.lemmas.Int.{ints, to_z-of_z}
use Rattle.std.specs.Int.{w128}
use Rattle.flow_accounts.specs.Balances.{account_count}
use Rattle.market_parts.proofs.Below.{read_value}
use Rattle.market_parts.proofs.Summing.{no_money, money_fits, money_more, money_too_much, all_money, money_small}
use Rattle.market_parts.proofs.sums.money_sum.Goals as goal

pub overflow_add-sum : goal.overflow_add-sum
overflow_add-sum g c =
    let b = g.P.AccountParts.balances c.args.parts.now in
    let inside : c.loop-place.place < account_count b = omega (arith, c.loop-place-test.true, c.account_count-place-end.ensures) in
    let value = to_z-of_z w128 c.unwrap-sum.result (record { sfits = c.unwrap-sum.type_inv }) ∙ read_value _ _ _ _ c.money.ensures c.unwrap-sum.ensures in
    rw value (money_fits b c.requires c.loop-place.place _ inside c.loop-place.invariant)

pub returns-then-sum-gt-MONEY_WIDTH-clause-none : goal.returns-then-sum-gt-MONEY_WIDTH-clause-none
returns-then-sum-gt-MONEY_WIDTH-clause-none g c _ =
    let b = g.P.AccountParts.balances c.args.parts.now in
    let inside : c.loop-place.place < account_count b = omega (arith, c.loop-place-test.true, c.account_count-place-end.ensures) in
    let value = to_z-of_z w128 c.unwrap-sum.result (record { sfits = c.unwrap-sum.type_inv }) ∙ read_value _ _ _ _ c.money.ensures c.unwrap-sum.ensures in
    let new = ap (λ z. to_z w128 c.loop-place.sum-bits +ℤ z) value in
    let fits = to_z-of_z w128 (to_z w128 c.loop-place.sum-bits +ℤ to_z w128 (of_z w128 c.unwrap-sum.result)) (rw value (money_fits b c.requires c.loop-place.place _ inside c.loop-place.invariant)) in
    money_too_much b c.requires c.loop-place.place _ _ inside c.loop-place.invariant (fits ∙ new) (omega (arith, ints, c.if-sum-gt-MONEY_WIDTH.true))

pub loop-place-init : goal.loop-place-init
loop-place-init g c = no_money (g.P.AccountParts.balances c.args.parts.now) c.requires

pub loop-place-preserved : goal.loop-place-preserved
loop-place-preserved g c =
    let b = g.P.AccountParts.balances c.args.parts.now in
    let inside : c.loop-place.place < account_count b = omega (arith, c.loop-place-test.true, c.account_count-place-end.ensures) in
    let value = to_z-of_z w128 c.unwrap-sum.result (record { sfits = c.unwrap-sum.type_inv }) ∙ read_value _ _ _ _ c.money.ensures c.unwrap-sum.ensures in
    let new = ap (λ z. to_z w128 c.loop-place.sum-bits +ℤ z) value in
    let fits = to_z-of_z w128 (to_z w128 c.loop-place.sum-bits +ℤ to_z w128 (of_z w128 c.unwrap-sum.result)) (rw value (money_fits b c.requires c.loop-place.place _ inside c.loop-place.invariant)) in
    money_more b c.requires c.loop-place.place _ _ inside c.loop-place.invariant (fits ∙ new) (omega (arith, ints, c.if-sum-gt-MONEY_WIDTH.false))

pub returns-clause-sum : goal.returns-clause-sum
returns-clause-sum g c =
    let b = g.P.AccountParts.balances c.args.parts.now in
    let all : c.loop-place.place ≡ account_count b = omega (arith, c.loop-place-test.false, c.loop-place.auto.place-end, c.account_count-place-end.ensures) in
    all_money b c.requires _ (rw all at c.loop-place.invariant)

pub returns-clause-fits : goal.returns-clause-fits
returns-clause-fits g c =
    let b = g.P.AccountParts.balances c.args.parts.now in
    let all : c.loop-place.place ≡ account_count b = omega (arith, c.loop-place-test.false, c.loop-place.auto.place-end, c.account_count-place-end.ensures) in
    money_small b c.requires _ (rw all at c.loop-place.invariant)
