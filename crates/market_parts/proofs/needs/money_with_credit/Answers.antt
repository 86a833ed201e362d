use Rattle.std.proofs.Common.{◌≡◌, ◌∙◌, ◌+ℤ◌, FitsSigned, to_z, of_z, ap, refl, arith}
use Rattle.std.specs.Int.{w128}
use Rattle.std.proofs.lemmas.Int.{ints, to_z-of_z, fits_signed_from_abs}
use Rattle.flow_accounts.specs.Balances.{grains, money_of, money_credit_of}
use Rattle.flow_accounts.proofs.Balance.{money_balance, money_credit_most}
use Rattle.market_parts.proofs.Below.{read_value}
use Rattle.market_parts.proofs.needs.money_with_credit.Goals as goal

held : (c : goal.After-grains_of) → to_z w128 (of_z w128 c.unwrap-held.result) ≡ money_of c.args.accounts.now c.args.account
held c = to_z-of_z w128 c.unwrap-held.result (record { sfits = c.unwrap-held.type_inv }) ∙ read_value _ _ _ _ c.money.ensures c.unwrap-held.ensures

credit : (c : goal.After-grains_of) → to_z w128 (of_z w128 c.grains_of.result) ≡ grains (money_credit_of c.args.accounts.now c.args.account)
credit c = to_z-of_z w128 c.grains_of.result (record { sfits = c.grains_of.type_inv }) ∙ c.grains_of.ensures ∙ ap grains (read_value _ _ _ _ c.money_credit.ensures c.unwrap-ticks.ensures)

fits : (c : goal.After-grains_of) → FitsSigned w128 (money_of c.args.accounts.now c.args.account +ℤ grains (money_credit_of c.args.accounts.now c.args.account))
fits c =
    let balance = money_balance c.args.accounts.now c.args.account c.requires.lawful c.requires.account in
    fits_signed_from_abs w128 _ (omega (arith, ints, balance.0, balance.1, money_credit_most c.args.accounts.now c.args.account c.requires.lawful c.requires.account))

pub overflow_add-result : goal.overflow_add-result
overflow_add-result c = rw (held c, credit c) (fits c)

pub returns : goal.returns
returns c = rw (held c, credit c, to_z-of_z w128 _ (fits c)) refl
