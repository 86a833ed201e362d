-- What the orders of a book reserve together.
use Rattle.std.specs.Prelude.{◌≡◌, ℕ, ◌*◌, ◌^◌, ◌==◌, if◌then◌else◌, ℤ, pos, ◌+ℤ◌, ◌≤ℤ◌, ◌≤◌, List, [], ◌∷◌, ◌++◌, length, All, Contains}
use Rattle.weight_rows.specs.Rows.{weight_in}
use Rattle.demand_curve.specs.Numbers.{or_zero}
use Rattle.flow_orders.specs.Orders.{Order, remaining_quantity, sold, money_need, unit_need, own_sum, needed_money, needed_units}
use Rattle.flow_orders.specs.Trades.{trader, trades, staying}
use Rattle.order_book.specs.Book.{AreLive, without}

-- what live orders reserve of an account is never negative, and at most 2^114 grains and 2^66 units of an asset
pub record NeedsAreSmall : Type 0 where
  pub money : (orders : List Order) (account : ℕ) → AreLive orders
      → (pos 0 ≤ℤ needed_money orders account) × (needed_money orders account ≤ℤ pos (2 ^ 114))
  pub units : (orders : List Order) (account asset : ℕ) → AreLive orders
      → (pos 0 ≤ℤ needed_units orders account asset) × (needed_units orders account asset ≤ℤ pos (2 ^ 66))

-- the amount if the order is the account's, else 0
abbrev pub if_own : Order → ℕ → ℕ → ℤ
if_own o account amount = if o.account == account then pos amount else pos 0

-- adding an order raises what an account's orders reserve by what that order reserves, if it is the account's
pub record AddedOrdersNeedMore : Type 0 where
  pub money : (orders : List Order) (o : Order) (account : ℕ)
      → needed_money (orders ++ o ∷ []) account ≡ needed_money orders account +ℤ if_own o account (money_need o)
  pub units : (orders : List Order) (o : Order) (account asset : ℕ)
      → needed_units (orders ++ o ∷ []) account asset ≡ needed_units orders account asset +ℤ if_own o account (unit_need asset o)

-- cancelling an order lowers what an account's orders reserve by what that order reserved, if it was the account's
pub record CancelledOrdersNeedNothing : Type 0 where
  pub money : (orders : List Order) (o : Order) (account : ℕ) → AreLive orders → Contains orders o
      → needed_money (without orders o.number) account +ℤ if_own o account (money_need o) ≡ needed_money orders account
  pub units : (orders : List Order) (o : Order) (account asset : ℕ) → AreLive orders → Contains orders o
      → needed_units (without orders o.number) account asset +ℤ if_own o account (unit_need asset o) ≡ needed_units orders account asset

-- a batch lowers what an account's orders reserve: of money by each trade at its high limit, of an asset by the units that each gives away
pub record FilledOrdersNeedLess : Type 0 where
  pub money : (orders : List Order) (rates : List ℕ) (account : ℕ) → length rates ≡ length orders
      → All (λ t. t.traded ≤ remaining_quantity t.order) (trades orders rates)
      → needed_money (staying (trades orders rates)) account +ℤ own_sum trader account (λ t. pos (or_zero t.order.high * t.traded)) (trades orders rates) ≡ needed_money orders account
  pub units : (orders : List Order) (rates : List ℕ) (account asset : ℕ) → length rates ≡ length orders
      → All (λ t. t.traded ≤ remaining_quantity t.order) (trades orders rates)
      → needed_units (staying (trades orders rates)) account asset
      +ℤ own_sum trader account (λ t. pos (sold (weight_in t.order.row asset) * t.traded)) (trades orders rates) ≡ needed_units orders account asset
