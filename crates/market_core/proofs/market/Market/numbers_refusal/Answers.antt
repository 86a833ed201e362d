use Rattle.std.proofs.Common.{◌≡◌, ℕ, ℤ, Bool, false, Option, Some, is_some, inl, inr, FitsSigned, to_z, of_z, refl, ap, not, subst, ◌∙◌}
use Rattle.std.specs.Int.{w64}
use Rattle.std.specs.Prelude.{SomeIff}
use Rattle.std.proofs.lemmas.Int.{to_z-of_z}
use Rattle.flow_accounts.specs.Balances.{Balances, IsAccount, money_of}
use Rattle.market_core.proofs.Reserving.{none_where, some_where}
use Rattle.market_core.proofs.market.Market.numbers_refusal.Goals as goal

-- a number of 64 bits that is passed on is the same
passed : (x y : ℤ) → FitsSigned w64 x → x ≡ y → to_z w64 (of_z w64 x) ≡ y
passed x y fits is = to_z-of_z w64 x fits ∙ is

-- the account is there exactly if it has a balance of money
there : (money : Option ℤ) (b : Balances) (account asked : ℕ) (none : Bool) → SomeIff money (IsAccount b account) (money_of b account) → is_some money ≡ not none → none ≡ false → account ≡ asked → IsAccount b asked
there money b account asked none is test has same =
    subst (IsAccount b) same (some_where money (IsAccount b account) (money_of b account) is (test ∙ ap not has))

pub returns-then-is_none-clause-some : goal.returns-then-is_none-clause-some
returns-then-is_none-clause-some c =
    let none = none_where c.money.result (IsAccount c.self.inside.accounts c.account.result) (money_of c.self.inside.accounts c.account.result) c.money.ensures (c.is_none.ensures ∙ ap not c.if-is_none.true) in
    rw (← c.self.view_is, ← c.account.ensures) (inl (none, refl))

pub returns-in-Some-BadLimits-clause-some : goal.returns-in-Some-BadLimits-clause-some
returns-in-Some-BadLimits-clause-some c =
    let account : IsAccount c.args.self.now.balances c.args.place.now.account = rw (← c.self.view_is) (there c.money.result c.self.inside.accounts c.account.result _ c.is_none.result c.money.ensures c.is_none.ensures c.if-is_none.false c.account.ensures) in
    let low = passed c.low.result _ (record { sfits = c.low.type_inv }) c.low.ensures in
    let high = passed c.high.result _ (record { sfits = c.high.type_inv }) c.high.ensures in
    let bad = rw (low, high) at c.order_fault.ensures.bad_limits.0 (c.in-Some-BadLimits.is ∙ ap Some c.in-Some-BadLimits.field-0-is) in
    inr (account, inl (bad, refl))

pub returns-in-Some-BadRate-clause-some : goal.returns-in-Some-BadRate-clause-some
returns-in-Some-BadRate-clause-some c =
    let account : IsAccount c.args.self.now.balances c.args.place.now.account = rw (← c.self.view_is) (there c.money.result c.self.inside.accounts c.account.result _ c.is_none.result c.money.ensures c.is_none.ensures c.if-is_none.false c.account.ensures) in
    let low = passed c.low.result _ (record { sfits = c.low.type_inv }) c.low.ensures in
    let high = passed c.high.result _ (record { sfits = c.high.type_inv }) c.high.ensures in
    let bad = rw (low, high, c.rate.ensures) at c.order_fault.ensures.bad_rate.0 (c.in-Some-BadRate.is ∙ ap Some c.in-Some-BadRate.field-0-is) in
    inr (account, inr (bad.0, inl (bad.1, refl)))

pub returns-in-Some-BadCap-clause-some : goal.returns-in-Some-BadCap-clause-some
returns-in-Some-BadCap-clause-some c =
    let account : IsAccount c.args.self.now.balances c.args.place.now.account = rw (← c.self.view_is) (there c.money.result c.self.inside.accounts c.account.result _ c.is_none.result c.money.ensures c.is_none.ensures c.if-is_none.false c.account.ensures) in
    let low = passed c.low.result _ (record { sfits = c.low.type_inv }) c.low.ensures in
    let high = passed c.high.result _ (record { sfits = c.high.type_inv }) c.high.ensures in
    let bad = rw (low, high, c.rate.ensures, c.cap.ensures) at c.order_fault.ensures.bad_cap.0 (c.in-Some-BadCap.is ∙ ap Some c.in-Some-BadCap.field-0-is) in
    inr (account, inr (bad.0, inr (bad.1, inl (bad.2, refl))))

pub returns-in-None-clause-none : goal.returns-in-None-clause-none
returns-in-None-clause-none c =
    let account : IsAccount c.args.self.now.balances c.args.place.now.account = rw (← c.self.view_is) (there c.money.result c.self.inside.accounts c.account.result _ c.is_none.result c.money.ensures c.is_none.ensures c.if-is_none.false c.account.ensures) in
    let low = passed c.low.result _ (record { sfits = c.low.type_inv }) c.low.ensures in
    let high = passed c.high.result _ (record { sfits = c.high.type_inv }) c.high.ensures in
    let numbers = rw (low, high, c.rate.ensures, c.cap.ensures) at c.order_fault.ensures.none.0 (ap is_some c.in-None.is) in
    record { account = account; limits = numbers.0; rate = numbers.1; cap = numbers.2 }
