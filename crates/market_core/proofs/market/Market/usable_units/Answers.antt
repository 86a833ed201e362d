use Rattle.std.proofs.Common.{◌≡◌, refl, ◌-ℤ◌, FitsSigned, Some}
use Rattle.std.specs.Int.{w128}
use Rattle.std.proofs.lemmas.Int.{to_z-of_z}
use Rattle.flow_accounts.specs.Balances.{units_with_credit}
use Rattle.flow_orders.specs.Orders.{needed_units}
use Rattle.market_core.proofs.Reserving.{same_number, needed_units_not_negative, free_fits}
use Rattle.market_core.proofs.market.Market.usable_units.Goals as goal

held : (c : goal.After-units_needed) → c.units_with_credit.result ≡ units_with_credit c.self.inside.accounts c.args.account c.args.asset
held c = rw (← c.self.view_is) at c.units_with_credit.ensures

fits : (c : goal.After-units_needed) → FitsSigned w128 (c.units_with_credit.result -ℤ c.units_needed.result)
fits c =
    let there = rw (← c.self.view_is) at c.requires in
    let small : FitsSigned w128 c.units_with_credit.result = record { sfits = c.units_with_credit.type_inv } in
    rw c.units_needed.ensures.value
    (free_fits c.units_with_credit.result (needed_units c.self.inside.book.orders c.args.account c.args.asset)
    (needed_units_not_negative c.self.inside.book.orders c.args.account c.args.asset) (rw (held c) (c.self.invariant.covered c.args.account (Some c.args.asset) there.account there.asset)) small)

pub overflow_sub-result : goal.overflow_sub-result
overflow_sub-result c = rw (same_number c.units_with_credit.result (record { sfits = c.units_with_credit.type_inv }), same_number c.units_needed.result (record { sfits = c.units_needed.type_inv })) (fits c)

pub returns : goal.returns
returns c =
    rw (same_number c.units_with_credit.result (record { sfits = c.units_with_credit.type_inv }), same_number c.units_needed.result (record { sfits = c.units_needed.type_inv }), to_z-of_z w128 (c.units_with_credit.result -ℤ c.units_needed.result) (fits c), held c, c.units_needed.ensures.value, ← c.self.view_is) refl
