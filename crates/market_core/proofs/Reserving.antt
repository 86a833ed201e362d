-- The accounts of a consistent market cover what its live orders need.
use Rattle.std.proofs.Common.{◌≡◌, ℕ, List, ◌≤◌, ℤ, pos, ◌+ℤ◌, ◌-ℤ◌, ◌≤ℤ◌, FitsSigned, to_z, of_z, true, false, Option, Some, None, true≢false, sym, subst, arith}
use Rattle.std.specs.Int.{w128}
use Rattle.std.specs.Prelude.{SomeIff, is_some}
use Rattle.std.proofs.lemmas.Int.{ints, fits_signed_from_abs, to_z-of_z}
use Rattle.flow_accounts.specs.Balances.{grains}
use Rattle.flow_accounts.specs.Lawful.{most_credit, IsMoneyBalance, IsUnitBalance}
use Rattle.flow_orders.specs.Orders.{Order, money_need, unit_need, needed_money, needed_units}
use Rattle.fill_caps.proofs.Needs.{own_not_negative}

-- the value of an option that has one
pub value_of : {T : Type 0} (o : Option T) (P : Type 0) (v x : T) → SomeIff o P v → o ≡ Some x → x ≡ v
value_of o P v x is some = (subst (λ s. SomeIff s P v) some is).1

-- a number of 128 bits that is passed on is the same
pub same_number : (x : ℤ) → FitsSigned w128 x → to_z w128 (of_z w128 x) ≡ x
same_number x fits = to_z-of_z w128 x fits

-- no order needs a negative amount
pub needed_money_not_negative : (orders : List Order) (account : ℕ) → pos 0 ≤ℤ needed_money orders account
needed_money_not_negative orders account = own_not_negative money_need account orders

pub needed_units_not_negative : (orders : List Order) (account asset : ℕ) → pos 0 ≤ℤ needed_units orders account asset
needed_units_not_negative orders account asset = own_not_negative (unit_need asset) account orders

-- what is held less what is needed of it fits in 128 bits
pub free_fits : (held needed : ℤ) → pos 0 ≤ℤ needed → needed ≤ℤ held → FitsSigned w128 held → FitsSigned w128 (held -ℤ needed)
free_fits held needed some covered bound = fits_signed_from_abs w128 (held -ℤ needed) (omega (arith, ints, some, covered, bound))

-- a balance and a credit within their limits fit together in 128 bits
pub money_fits : (held : ℤ) (ticks : ℕ) → IsMoneyBalance held → ticks ≤ most_credit → FitsSigned w128 (held +ℤ grains ticks)
money_fits held ticks balance few = fits_signed_from_abs w128 (held +ℤ grains ticks) (omega (arith, ints, balance.0, balance.1, few))

pub units_fit : (held : ℤ) (credit : ℕ) → IsUnitBalance held → credit ≤ most_credit → FitsSigned w128 (held +ℤ pos credit)
units_fit held credit balance few = fits_signed_from_abs w128 (held +ℤ pos credit) (omega (arith, ints, balance.0, balance.1, few))

-- an option without a value refutes the claim that there is one
pub none_where : {T : Type 0} (o : Option T) (P : Type 0) (v : T) → SomeIff o P v → is_some o ≡ false → P → ⊥
none_where None P v is none = is
none_where (Some x) P v is none = absurd (true≢false none)

pub some_where : {T : Type 0} (o : Option T) (P : Type 0) (v : T) → SomeIff o P v → is_some o ≡ true → P
some_where (Some x) P v is some = is.0
some_where None P v is some = absurd (true≢false (sym some))
