-- The bytes of a checkpoint part by part, as they are written and read. They are those of the fields.
use Rattle.std.specs.Prelude.{ℕ, ℤ, List, ◌++◌, length, map}
use Rattle.std.specs.List.{flat_map, zip}
use Rattle.wire_fields.specs.Numbers.{unsigned, signed}
use Rattle.wire_records.specs.Bodies.{entry_encoding}
use Rattle.wire_records.specs.Versions.{number_of}
use Rattle.flow_accounts.specs.Balances.{Account, Credit, Balances, account_count}
use Rattle.flow_orders.specs.Orders.{Order}
use Rattle.market_rules.specs.Market.{Market}
use Rattle.market_parts.specs.Parts.{ReadOrder, Parts}
use Rattle.market_snapshot.specs.Checkpoints.{checkpoint_magic, ticks_of}

-- the bytes of an account's units of an asset, and of its credit in that asset
unfoldable pub units_encoding : ℤ × ℕ → List ℕ
units_encoding u = signed 8 u.0 ++ unsigned 8 u.1

-- the bytes of an account and of its credit line: money, credit in money, and then asset by asset
unfoldable pub account_encoding : Account × Credit → List ℕ
account_encoding a = signed 16 a.0.money ++ (unsigned 8 a.1.ticks ++ flat_map units_encoding (zip a.0.units a.1.units))

-- the bytes of a live order, its limits in ticks: its numbers, how many legs it has, and the legs
unfoldable pub order_encoding : ReadOrder → List ℕ
order_encoding o =
    unsigned 8 o.number ++ (unsigned 4 o.account ++ (signed 8 o.low ++ (signed 8 o.high ++ (unsigned 4 o.rate
    ++ (unsigned 8 o.cap ++ (unsigned 8 o.filled ++ (unsigned 4 o.last ++ (unsigned 1 (length o.row) ++ flat_map entry_encoding o.row))))))))

-- the magic, the number of the version, how many assets there are, and their tickers
unfoldable pub tickers_encoding : (version : ℕ) → List (List ℕ) → List ℕ
tickers_encoding version tickers = checkpoint_magic ++ (unsigned 1 version ++ (unsigned 2 (length tickers) ++ flat_map (λ t. t) tickers))

-- the bytes of how many accounts there are, and of the accounts
unfoldable pub accounts_encoding : Balances → List ℕ
accounts_encoding b = unsigned 4 (account_count b) ++ flat_map account_encoding (zip b.accounts b.credits)

-- the bytes of the totals of deposits less withdrawals: of money, and of each asset
unfoldable pub totals_encoding : Balances → List ℕ
totals_encoding b = signed 16 b.totals.money ++ flat_map (signed 8) b.totals.units

-- the bytes of the exchange's own account: its money, and its units of each asset
unfoldable pub exchange_encoding : Account → List ℕ
exchange_encoding a = signed 16 a.money ++ flat_map (signed 8) a.units

-- the bytes of the number that the next order gets, of how many batches were held, and of the last cleared price of each asset
unfoldable pub batches_encoding : (next batches : ℕ) → List ℤ → List ℕ
batches_encoding next batches prices = unsigned 8 next ++ (unsigned 4 batches ++ flat_map (signed 8) prices)

-- the bytes of how many live orders there are, and of the orders
unfoldable pub orders_encoding : List ReadOrder → List ℕ
orders_encoding orders = unsigned 4 (length orders) ++ flat_map order_encoding orders

-- the bytes of the parts of a market
unfoldable pub parts_encoding : Parts → List ℕ
parts_encoding p =
    tickers_encoding p.version p.tickers ++ (accounts_encoding p.balances ++ (totals_encoding p.balances ++ (exchange_encoding p.exchange
    ++ (batches_encoding p.next_order p.batches p.last_prices ++ orders_encoding p.orders))))

-- a live order as it is read, with its limits in ticks
abbrev pub read_order : Order → ReadOrder
read_order o = record {
  number = o.number;
  account = o.account;
  low = ticks_of o.low;
  high = ticks_of o.high;
  rate = o.rate;
  cap = o.cap;
  filled = o.filled;
  last = o.last;
  row = o.row;
}

-- the parts of a market
abbrev pub parts_of_market : Market → Parts
parts_of_market m = record {
  version = number_of m.version;
  balances = m.balances;
  tickers = m.tickers;
  exchange = m.exchange;
  orders = map read_order m.orders;
  next_order = m.next_order;
  batches = m.batches;
  last_prices = m.last_prices;
}

-- the bytes of a market, part by part
unfoldable pub market_encoding : Market → List ℕ
market_encoding m = parts_encoding (parts_of_market m)
