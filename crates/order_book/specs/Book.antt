-- A book of live orders as contracts see it, and what holds of every book.
use Rattle.std.specs.Prelude.{◌≡◌, ℕ, ◌<◌, ◌≤◌, ◌==◌, not, List, length, All, AllPairs, Contains}
use Rattle.std.specs.List.{filter, HoldsAt}
use Rattle.flow_orders.specs.Orders.{Order, IsOrder, most_orders}

-- a book: its live orders, and for how many more there surely is room
pub record Book : Type 0 where
  pub orders : List Order
  pub room : ℕ

-- live orders: each within the limits, by ascending numbers, and at most 16,384
pub record AreLive (orders : List Order) : Type 0 where
  pub each : All IsOrder orders
  pub ascending : AllPairs (λ o later. o.number < later.number) orders
  pub few : length orders ≤ most_orders

-- one of the orders has this account and number
pub record HasOrder (orders : List Order) (account number : ℕ) : Type 0 where
  pub order : Order
  pub live : Contains orders order
  pub account_is : order.account ≡ account
  pub number_is : order.number ≡ number

-- the orders without the one of this number
abbrev pub without : List Order → ℕ → List Order
without orders number = filter (λ o. not (o.number == number)) orders

-- the order of this number is at this place
pub record IsPlaceOf (orders : List Order) (number place : ℕ) : Type 0 where
  pub within : place < length orders
  pub found : HoldsAt (λ o. o.number ≡ number) orders place
