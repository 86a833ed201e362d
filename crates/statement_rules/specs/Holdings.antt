-- What an account has, as its view alone says.
use Rattle.std.specs.Prelude.{◌≡◌, ℕ, ◌<◌, ◌==◌, Bool, true, false, if◌then◌else◌, ℤ, pos, neg_ℤ, ◌+ℤ◌, ◌-ℤ◌, List, [], ◌∷◌, ◌++◌, length, Option, Some, None}
use Rattle.std.specs.List.{filter}
use Rattle.list_sums.specs.Sums.{int_sum_by}
use Rattle.flow_accounts.specs.Balances.{IsAsset, value_of, balance_of}
use Rattle.flow_orders.specs.Orders.{Order}
use Rattle.flow_orders.specs.Outcomes.{trades_of}
use Rattle.flow_orders.specs.Trades.{paid, received, staying, going_on}
use Rattle.order_book.specs.Book.{without}
use Rattle.market_rules.specs.Market.{Market}
use Rattle.market_rules.specs.Step.{ordered}
use Rattle.statement_rules.specs.Views.{Event, Adds, Opens, Deposits, Withdraws, Credits, Places, Cancels, Refuses, Clears, Skips, is_there}

-- the tickers that were added, whether the account was opened, its money in grains, its units of each asset, and its live orders
pub record Holding : Type 0 where
  pub tickers : List (List ℕ)
  pub is_open : Bool
  pub money : ℤ
  pub units : ℕ → ℤ
  pub orders : List Order

-- what the account has before the first entry
abbrev pub nothing : Holding
nothing = record { tickers = []; is_open = false; money = pos 0; units = λ asset. pos 0; orders = [] }

-- what the account has after what it has of a kind changed by the amount, in grains or in units
abbrev pub changed : Holding → Option ℕ → ℤ → Holding
changed h None amount = record h { money = h.money +ℤ amount }
changed h (Some named) amount = record h { units = λ asset. if asset == named then h.units asset +ℤ amount else h.units asset }

-- what the account has after an event: nothing of an asset that is added; credits and refusals change nothing; a batch that clears takes
-- what its trades cost and brings their units, and any batch removes the orders whose last batch it was
abbrev pub after : Holding → Event → Holding
after h (Adds ticker) = record h { tickers = h.tickers ++ ticker ∷ []; units = λ asset. if asset == length h.tickers then pos 0 else h.units asset }
after h (Opens account) = record h { is_open = true }
after h (Deposits kind count) = changed h kind (value_of kind count)
after h (Withdraws kind count) = changed h kind (neg_ℤ (value_of kind count))
after h (Credits kind count) = h
after h (Places number last r) = record h { orders = h.orders ++ ordered number last r ∷ [] }
after h (Cancels number) = record h { orders = without h.orders number }
after h (Refuses command refusal) = h
after h (Clears batch prices fills) = record h {
  money = h.money -ℤ int_sum_by (paid prices) (trades_of h.orders fills);
  units = λ asset. h.units asset +ℤ int_sum_by (received asset) (trades_of h.orders fills);
  orders = going_on batch (staying (trades_of h.orders fills));
}
after h (Skips batch) = record h { orders = going_on batch h.orders }

-- what the account has after all events of a view, one after the other
abbrev pub after_all : Holding → List Event → Holding
after_all h [] = h
after_all h (event ∷ view) = after_all (after h event) view

-- the orders of an account among these
abbrev pub own_orders : ℕ → List Order → List Order
own_orders account orders = filter (λ o. o.account == account) orders

-- what the account of a number has in a market
abbrev pub held_in : ℕ → Market → Holding
held_in account m = record {
  tickers = m.tickers;
  is_open = is_there m account;
  money = balance_of m.balances account None;
  units = λ asset. balance_of m.balances account (Some asset);
  orders = own_orders account m.orders;
}

-- This is what the account of a number has in a market. An account that isn't there yet has nothing.
pub record IsHeld (account : ℕ) (m : Market) (h : Holding) : Type 0 where
  pub tickers : h.tickers ≡ m.tickers
  pub opened : h.is_open ≡ is_there m account
  pub money : 0 < account → h.money ≡ balance_of m.balances account None
  pub units : 0 < account → (asset : ℕ) → IsAsset m.balances asset → h.units asset ≡ balance_of m.balances account (Some asset)
  pub orders : h.orders ≡ own_orders account m.orders
