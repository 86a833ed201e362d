use Rattle.std.proofs.Common.{◌≡◌, refl, ◌-ℤ◌, FitsSigned, None}
use Rattle.std.specs.Int.{w128}
use Rattle.std.proofs.lemmas.Int.{to_z-of_z}
use Rattle.flow_accounts.specs.Balances.{money_with_credit}
use Rattle.flow_orders.specs.Orders.{needed_money}
use Rattle.market_core.proofs.Reserving.{same_number, needed_money_not_negative, free_fits}
use Rattle.market_core.proofs.market.Market.usable_money.Goals as goal

held : (c : goal.After-money_needed) → c.money_with_credit.result ≡ money_with_credit c.self.inside.accounts c.args.account
held c = rw (← c.self.view_is) at c.money_with_credit.ensures

fits : (c : goal.After-money_needed) → FitsSigned w128 (c.money_with_credit.result -ℤ c.money_needed.result)
fits c =
    let there = rw (← c.self.view_is) at c.requires in
    let small : FitsSigned w128 c.money_with_credit.result = record { sfits = c.money_with_credit.type_inv } in
    rw c.money_needed.ensures.value
    (free_fits c.money_with_credit.result (needed_money c.self.inside.book.orders c.args.account)
    (needed_money_not_negative c.self.inside.book.orders c.args.account) (rw (held c) (c.self.invariant.covered c.args.account None there tt)) small)

pub overflow_sub-result : goal.overflow_sub-result
overflow_sub-result c = rw (same_number c.money_with_credit.result (record { sfits = c.money_with_credit.type_inv }), same_number c.money_needed.result (record { sfits = c.money_needed.type_inv })) (fits c)

pub returns-clause-value : goal.returns-clause-value
returns-clause-value c =
    rw (same_number c.money_with_credit.result (record { sfits = c.money_with_credit.type_inv }), same_number c.money_needed.result (record { sfits = c.money_needed.type_inv }), to_z-of_z w128 (c.money_with_credit.result -ℤ c.money_needed.result) (fits c), held c, c.money_needed.ensures.value, ← c.self.view_is) refl
