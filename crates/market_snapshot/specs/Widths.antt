-- Which parts of a market fit the fields of a checkpoint, whether they are a consistent market's or not.
use Rattle.std.specs.Prelude.{◌≡◌, ◌≤◌, ℕ, ℤ, List, length, All}
use Rattle.std.specs.List.{zip}
use Rattle.wire_fields.specs.Numbers.{IsUnsigned, IsSigned}
use Rattle.wire_records.specs.Bodies.{IsEntry}
use Rattle.flow_accounts.specs.Balances.{Account, Credit, Balances, account_count}
use Rattle.flow_orders.specs.Orders.{most_orders}
use Rattle.market_parts.specs.Parts.{ReadOrder, Parts}

-- the units of an asset and the credit in it fit eight bytes each
abbrev pub FitUnits : ℤ × ℕ → Type 0
FitUnits u = IsSigned 8 u.0 × IsUnsigned 8 u.1

-- an account and its credit line fit their fields, and are of this many assets
pub record FitsAccount (assets : ℕ) (a : Account × Credit) : Type 0 where
  pub money : IsSigned 16 a.0.money
  pub ticks : IsUnsigned 8 a.1.ticks
  pub balances : length a.0.units ≡ assets
  pub credits : length a.1.units ≡ assets
  pub units : All FitUnits (zip a.0.units a.1.units)

-- an order fits its fields
pub record FitsOrder (o : ReadOrder) : Type 0 where
  pub number : IsUnsigned 8 o.number
  pub account : IsUnsigned 4 o.account
  pub low : IsSigned 8 o.low
  pub high : IsSigned 8 o.high
  pub rate : IsUnsigned 4 o.rate
  pub cap : IsUnsigned 8 o.cap
  pub filled : IsUnsigned 8 o.filled
  pub last : IsUnsigned 4 o.last
  pub count : IsUnsigned 1 (length o.row)
  pub row : All IsEntry o.row

-- balances fit their fields, and are of this many assets
pub record FitBalances (assets : ℕ) (b : Balances) : Type 0 where
  pub count : IsUnsigned 4 (account_count b)
  pub one_each : length b.credits ≡ account_count b
  pub accounts : All (FitsAccount assets) (zip b.accounts b.credits)
  pub total_money : IsSigned 16 b.totals.money
  pub totals : length b.totals.units ≡ assets
  pub total_units : All (IsSigned 8) b.totals.units

-- the exchange's own account fits its fields, and is of this many assets
pub record FitsExchange (assets : ℕ) (a : Account) : Type 0 where
  pub money : IsSigned 16 a.money
  pub balances : length a.units ≡ assets
  pub units : All (IsSigned 8) a.units

-- all parts fit their fields, and have at most as many orders as a consistent market may have
pub record FitWidths (p : Parts) : Type 0 where
  pub version : IsUnsigned 1 p.version
  pub assets : IsUnsigned 2 (length p.tickers)
  pub tickers : All (λ (t : List ℕ). length t ≡ 8) p.tickers
  pub balances : FitBalances (length p.tickers) p.balances
  pub exchange : FitsExchange (length p.tickers) p.exchange
  pub next : IsUnsigned 8 p.next_order
  pub batches : IsUnsigned 4 p.batches
  pub price_each : length p.last_prices ≡ length p.tickers
  pub prices : All (IsSigned 8) p.last_prices
  pub few : length p.orders ≤ most_orders
  pub orders : All FitsOrder p.orders
