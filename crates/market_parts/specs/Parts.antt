-- The parts of a market, as readers give them, and the market that has these parts.
use Rattle.std.specs.Prelude.{◌≡◌, ℕ, ◌<◌, ◌^◌, ℤ, List, [], map, length, Option}
use Rattle.weight_rows.specs.declared.entries.Entry.{Entry}
use Rattle.wire_records.specs.declared.version.Version.{Version}
use Rattle.wire_records.specs.Versions.{number_of}
use Rattle.flow_accounts.specs.Balances.{Account, Balances, asset_count}
use Rattle.flow_orders.specs.Orders.{Order, price_of_ticks}
use Rattle.market_rules.specs.Market.{Market, IsConsistent}
use Rattle.market_parts.specs.declared.order.OrderParts.{OrderParts}

-- an order as it is read: like an order of the market, but with its limits in ticks
pub record ReadOrder : Type 0 where
  pub number : ℕ
  pub account : ℕ
  pub low : ℤ
  pub high : ℤ
  pub rate : ℕ
  pub cap : ℕ
  pub filled : ℕ
  pub last : ℕ
  pub row : List Entry

-- what readers give: the number of the version, the balances, and the other lists and numbers of a market
pub record Parts : Type 0 where
  pub version : ℕ
  pub balances : Balances
  pub tickers : List (List ℕ)
  pub exchange : Account
  pub orders : List ReadOrder
  pub next_order : ℕ
  pub batches : ℕ
  pub last_prices : List ℤ

-- there is one ticker, one last price and one of the exchange's balances for each asset
pub record HasOneForEach (p : Parts) : Type 0 where
  pub tickers : length p.tickers ≡ asset_count p.balances
  pub exchange : length p.exchange.units ≡ asset_count p.balances
  pub prices : length p.last_prices ≡ asset_count p.balances

-- the order that was read, with its limits in grains
abbrev pub order_of : ReadOrder → Order
order_of o = record {
  number = o.number;
  account = o.account;
  low = price_of_ticks o.low;
  high = price_of_ticks o.high;
  rate = o.rate;
  cap = o.cap;
  filled = o.filled;
  row = o.row;
  last = o.last;
}

-- the market of a version that has these parts
abbrev pub market_of : Version → Parts → Market
market_of version p = record {
  version = version;
  tickers = p.tickers;
  balances = p.balances;
  exchange = p.exchange;
  orders = map order_of p.orders;
  next_order = p.next_order;
  batches = p.batches;
  last_prices = p.last_prices;
}

-- a market has these parts
pub record HasParts (p : Parts) (m : Market) : Type 0 where
  pub version : p.version ≡ number_of m.version
  pub market : m ≡ market_of m.version p

-- the parts of a consistent market whose next order number is below 2^63
pub record AreConsistent (p : Parts) : Type 0 where
  pub market : Market
  pub parts : HasParts p market
  pub consistent : IsConsistent market
  pub next : p.next_order < 2 ^ 63

-- what is read of an order except its legs: its numbers, and how many legs it has
abbrev pub numbers_of : ReadOrder → OrderParts
numbers_of o = record {
  number = o.number;
  account = o.account;
  low = o.low;
  high = o.high;
  rate = o.rate;
  cap = o.cap;
  filled = o.filled;
  last = o.last;
  entries = length o.row;
}

-- the legs of an order that was read, or none if there is no order
abbrev pub row_of : Option ReadOrder → List Entry
row_of (Option.Some o) = o.row
row_of Option.None = []
