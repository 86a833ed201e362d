use Rattle.std.proofs.Common.{◌≡◌, ◌∙◌, ◌+ℤ◌, pos, FitsSigned, to_z, of_z, ap, refl, arith}
use Rattle.std.specs.Int.{w64, w128}
use Rattle.std.proofs.lemmas.Int.{ints, to_z-of_z, fits_signed_from_abs}
use Rattle.flow_accounts.specs.Balances.{units_of, unit_credit_of}
use Rattle.flow_accounts.proofs.Balance.{unit_balance, unit_credit_most}
use Rattle.market_parts.proofs.Below.{read_value}
use Rattle.market_parts.proofs.needs.units_with_credit.Goals as goal

held : (c : goal.After-from-2) → to_z w128 (of_z w128 c.from.result) ≡ units_of c.args.accounts.now c.args.account c.args.asset
held c = to_z-of_z w128 c.from.result (record { sfits = c.from.type_inv }) ∙ c.from.ensures ∙ to_z-of_z w64 c.unwrap-held.result (record { sfits = c.unwrap-held.type_inv }) ∙ read_value _ _ _ _ c.units.ensures c.unwrap-held.ensures

credit : (c : goal.After-from-2) → to_z w128 (of_z w128 c.from-2.result) ≡ pos (unit_credit_of c.args.accounts.now c.args.account c.args.asset)
credit c = to_z-of_z w128 c.from-2.result (record { sfits = c.from-2.type_inv }) ∙ c.from-2.ensures ∙ ap pos (read_value _ _ _ _ c.unit_credit.ensures c.unwrap-credit.ensures)

fits : (c : goal.After-from-2) → FitsSigned w128 (units_of c.args.accounts.now c.args.account c.args.asset +ℤ pos (unit_credit_of c.args.accounts.now c.args.account c.args.asset))
fits c =
    let balance = unit_balance c.args.accounts.now c.args.account c.args.asset c.requires.lawful c.requires.account c.requires.asset in
    fits_signed_from_abs w128 _ (omega (arith, ints, balance.0, balance.1, unit_credit_most c.args.accounts.now c.args.account c.args.asset c.requires.lawful c.requires.account c.requires.asset))

pub overflow_add-result : goal.overflow_add-result
overflow_add-result c = rw (held c, credit c) (fits c)

pub returns : goal.returns
returns c = rw (held c, credit c, to_z-of_z w128 _ (fits c)) refl
