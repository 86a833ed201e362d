-- What is asked of a batch that accounts are told of.
use Rattle.std.specs.Prelude.{◌≡◌, ℕ, ◌^◌, ◌<◌, ◌≤◌, List, length, All}
use Rattle.weight_rows.specs.Rows.{IsPrice, IsPricedBy}
use Rattle.flow_orders.specs.Orders.{Order, most_orders}
use Rattle.flow_orders.specs.Outcomes.{Clearing}

-- the orders are of accounts that are there, if so many are
abbrev pub AreOfAccounts : ℕ → List Order → Type 0
AreOfAccounts accounts orders = All (λ (o : Order). (0 < o.account) × (o.account ≤ accounts)) orders

-- a clearing has one rate for each of these orders, which are live orders of accounts that are there, and a price for each of their assets
pub record FitsBook (accounts : ℕ) (orders : List Order) (c : Clearing) : Type 0 where
  pub few : length orders ≤ most_orders
  pub some : accounts < 2 ^ 32
  pub there : AreOfAccounts accounts orders
  pub rates : length c.fills ≡ length orders
  pub small : All IsPrice c.prices
  pub priced : All (λ (o : Order). IsPricedBy o.row c.prices) orders
