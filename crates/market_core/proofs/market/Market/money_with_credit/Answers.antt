use Rattle.std.proofs.Common.{◌≡◌, refl, ◌+ℤ◌, FitsSigned}
use Rattle.std.specs.Int.{w128}
use Rattle.std.proofs.lemmas.Int.{to_z-of_z}
use Rattle.flow_accounts.specs.Balances.{IsAccount, money_of, money_credit_of}
use Rattle.market_core.specs.Kept.{market_in}
use Rattle.market_rules.proofs.Lawful.{money_of_each, credit_line}
use Rattle.market_core.proofs.Reserving.{value_of, same_number, money_fits}
use Rattle.market_core.proofs.market.Market.money_with_credit.Goals as goal

held : (c : goal.After-grains_of-credit) → c.unwrap-held.result ≡ money_of c.self.inside.accounts c.args.account
held c = value_of c.money.result _ _ _ c.money.ensures c.unwrap-held.ensures

credit : (c : goal.After-grains_of-credit) → c.unwrap.result ≡ money_credit_of c.self.inside.accounts c.args.account
credit c = value_of c.money_credit.result _ _ _ c.money_credit.ensures c.unwrap.ensures

fits : (c : goal.After-grains_of-credit) → FitsSigned w128 (c.unwrap-held.result +ℤ c.grains_of-credit.result)
fits c =
    let m = market_in c.self.inside in
    let there : IsAccount m.balances c.args.account = rw (← c.self.view_is) at c.requires in
    rw (held c, c.grains_of-credit.ensures, credit c) (money_fits (money_of m.balances c.args.account) (money_credit_of m.balances c.args.account)
    (money_of_each m c.self.invariant c.args.account there) (credit_line m c.self.invariant c.args.account there).ticks)

pub overflow_add-result : goal.overflow_add-result
overflow_add-result c = rw (same_number c.unwrap-held.result (record { sfits = c.unwrap-held.type_inv }), same_number c.grains_of-credit.result (record { sfits = c.grains_of-credit.type_inv })) (fits c)

pub returns : goal.returns
returns c =
    rw (same_number c.unwrap-held.result (record { sfits = c.unwrap-held.type_inv }), same_number c.grains_of-credit.result (record { sfits = c.grains_of-credit.type_inv }), to_z-of_z w128 (c.unwrap-held.result +ℤ c.grains_of-credit.result) (fits c), held c, c.grains_of-credit.ensures, credit c, ← c.self.view_is) refl
