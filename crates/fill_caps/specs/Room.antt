-- What the settlement of an order requires of its account and of the exchange, so that no balance leaves its range.
use Rattle.std.specs.Prelude.{ℕ, ◌+◌, ◌^◌, ◌≤◌, ℤ, pos, ◌+ℤ◌, ◌≤ℤ◌, ◌<ℤ◌, unsigned_abs}
use Rattle.flow_accounts.specs.Balances.{Account, Balances, IsAsset, money_of, units_of, money_with_credit, units_with_credit, units_in}
use Rattle.flow_orders.specs.Orders.{Order, money_need, unit_need}

-- an order's account covers what the order reserves, and has few enough grains and units to receive more; the exchange isn't far from 0
pub record HasRoom (o : Order) (b : Balances) (exchange : Account) : Type 0 where
  pub money_covered : pos (money_need o) ≤ℤ money_with_credit b o.account
  pub money_most : money_of b o.account ≤ℤ pos (2 ^ 123 + 2 ^ 117)
  pub units_covered : (asset : ℕ) → IsAsset b asset → pos (unit_need asset o) ≤ℤ units_with_credit b o.account asset
  pub units_most : (asset : ℕ) → IsAsset b asset → units_of b o.account asset ≤ℤ pos (2 ^ 61)
  pub exchange_money : unsigned_abs exchange.money ≤ 2 ^ 124
  pub exchange_units : (asset : ℕ) → IsAsset b asset → unsigned_abs (units_in exchange asset) ≤ 2 ^ 56

-- an account's units of an asset may change by the amount: they stay within its credit, and below 2^62
abbrev pub MayChangeUnits : Balances → ℕ → ℕ → ℤ → Type 0
MayChangeUnits b account asset amount = (pos 0 ≤ℤ (units_with_credit b account asset +ℤ amount)) × ((units_of b account asset +ℤ amount) <ℤ pos (2 ^ 62))
