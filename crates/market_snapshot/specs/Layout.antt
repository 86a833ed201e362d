-- The places of the parts of a checkpoint in its bytes, and what is read there.
use Rattle.std.specs.Prelude.{◌≡◌, ◌+◌, ◌-◌, ◌*◌, ◌≤◌, ℕ, ℤ, List, ◌++◌, length, map, take, drop, All}
use Rattle.std.specs.Int.{w32, w64, w128}
use Rattle.std.specs.List.{flat_map, range_with_len}
use Rattle.byte_places.specs.Places.{part, unsigned_at, signed_at}
use Rattle.weight_rows.specs.declared.entries.Entry.{Entry}
use Rattle.flow_accounts.specs.Balances.{Account, Credit, Balances}
use Rattle.market_parts.specs.Parts.{ReadOrder, Parts}
use Rattle.market_snapshot.specs.declared.layout.Layout.{Layout}
use Rattle.market_snapshot.specs.Checkpoints.{checkpoint_magic}
use Rattle.market_snapshot.specs.Encodings.{order_encoding, parts_encoding}
use Rattle.market_snapshot.specs.Widths.{FitsOrder, FitWidths}

-- how many bytes an account takes, with its credit line
abbrev pub account_size : (assets : ℕ) → ℕ
account_size assets = 24 + 16 * assets

-- `count` numbers with a sign, of eight bytes each, from a place on
abbrev pub signs_at : (count place : ℕ) → List ℕ → List ℤ
signs_at count place bytes = map (λ k. signed_at w64 (place + 8 * k) bytes) (range_with_len 0 count)

-- the tickers of this many assets
abbrev pub tickers_at : (assets : ℕ) → List ℕ → List (List ℕ)
tickers_at assets bytes = map (λ k. part (11 + 8 * k) 8 bytes) (range_with_len 0 assets)

-- the account at a place
abbrev pub account_at : (assets place : ℕ) → List ℕ → Account
account_at assets place bytes = record {
  money = signed_at w128 place bytes;
  units = map (λ k. signed_at w64 (place + 24 + 16 * k) bytes) (range_with_len 0 assets);
}

-- the credit line of the account at a place
abbrev pub credit_at : (assets place : ℕ) → List ℕ → Credit
credit_at assets place bytes = record {
  ticks = unsigned_at 8 (place + 16) bytes;
  units = map (λ k. unsigned_at 8 (place + 32 + 16 * k) bytes) (range_with_len 0 assets);
}

-- the leg at a place
abbrev pub entry_at : (place : ℕ) → List ℕ → Entry
entry_at place bytes = record { asset = unsigned_at 2 place bytes; weight = signed_at w32 (place + 2) bytes }

-- the weight vector of `count` legs from a place on
abbrev pub row_at : (count place : ℕ) → List ℕ → List Entry
row_at count place bytes = map (λ j. entry_at (place + 6 * j) bytes) (range_with_len 0 count)

-- how many legs the order at a place has
abbrev pub entries_at : (place : ℕ) → List ℕ → ℕ
entries_at place bytes = unsigned_at 1 (place + 52) bytes

-- how many bytes the order at a place takes
abbrev pub order_size : (place : ℕ) → List ℕ → ℕ
order_size place bytes = 53 + 6 * entries_at place bytes

-- the order at a place, its limits in ticks
abbrev pub order_at : (place : ℕ) → List ℕ → ReadOrder
order_at place bytes = record {
  number = unsigned_at 8 place bytes;
  account = unsigned_at 4 (place + 8) bytes;
  low = signed_at w64 (place + 12) bytes;
  high = signed_at w64 (place + 20) bytes;
  rate = unsigned_at 4 (place + 28) bytes;
  cap = unsigned_at 8 (place + 32) bytes;
  filled = unsigned_at 8 (place + 40) bytes;
  last = unsigned_at 4 (place + 48) bytes;
  row = row_at (entries_at place bytes) (place + 53) bytes;
}

-- the place of account k, counted from 0
abbrev pub account_place : (assets k : ℕ) → ℕ
account_place assets k = 15 + 8 * assets + account_size assets * k

-- the balances in bytes of this layout
abbrev pub balances_at : Layout → List ℕ → Balances
balances_at l bytes = record {
  accounts = map (λ k. account_at l.assets (account_place l.assets k) bytes) (range_with_len 0 l.accounts);
  credits = map (λ k. credit_at l.assets (account_place l.assets k) bytes) (range_with_len 0 l.accounts);
  totals = record { money = signed_at w128 l.totals bytes; units = signs_at l.assets (l.totals + 16) bytes };
}

-- the parts of a market in bytes of this layout whose orders are at these places
abbrev pub parts_at : Layout → List ℕ → (orders : List ℕ) → Parts
parts_at l bytes orders = record {
  version = unsigned_at 1 8 bytes;
  balances = balances_at l bytes;
  tickers = tickers_at l.assets bytes;
  exchange = record { money = signed_at w128 (l.totals + 16 + 8 * l.assets) bytes; units = signs_at l.assets (l.totals + 32 + 8 * l.assets) bytes };
  orders = map (λ p. order_at p bytes) orders;
  next_order = unsigned_at 8 (l.totals + 32 + 16 * l.assets) bytes;
  batches = unsigned_at 4 (l.totals + 40 + 16 * l.assets) bytes;
  last_prices = signs_at l.assets (l.totals + 44 + 16 * l.assets) bytes;
}

-- the place of the number of orders
abbrev pub count_place : Layout → ℕ
count_place l = l.totals + 44 + 24 * l.assets

-- the place of the first order
abbrev pub first_place : Layout → ℕ
first_place l = l.totals + 48 + 24 * l.assets

-- the bytes begin with the magic, have this many assets and accounts, and have all that precedes the orders
pub record IsLayout (bytes : List ℕ) (l : Layout) : Type 0 where
  pub magic : take 8 bytes ≡ checkpoint_magic
  pub assets : l.assets ≡ unsigned_at 2 9 bytes
  pub accounts : l.accounts ≡ unsigned_at 4 (11 + 8 * l.assets) bytes
  pub totals : l.totals ≡ 15 + 8 * l.assets + account_size l.assets * l.accounts
  pub whole : first_place l ≤ length bytes

-- orders are at these places, one after the other, from the place `first` up to the place `end`
pub record AreOrders (bytes : List ℕ) (first end : ℕ) (places : List ℕ) : Type 0 where
  pub there : All (λ p. p + order_size p bytes ≤ length bytes) places
  pub encoded : flat_map order_encoding (map (λ p. order_at p bytes) places) ≡ part first (end - first) bytes
  pub forward : first ≤ end
  pub inside : end ≤ length bytes

-- the bytes don't begin with parts that fit
abbrev pub BeginsWithNoParts : List ℕ → Type 0
BeginsWithNoParts bytes = (p : Parts) (rest : List ℕ) → FitWidths p → ¬ (bytes ≡ parts_encoding p ++ rest)

-- no `count` orders that fit follow one another from this place on
abbrev pub HasNoOrders : (count place : ℕ) → List ℕ → Type 0
HasNoOrders count place bytes =
    (orders : List ReadOrder) (rest : List ℕ) → length orders ≡ count → All FitsOrder orders → ¬ (drop place bytes ≡ flat_map order_encoding orders ++ rest)

-- no order that fits is at a place
abbrev pub BeginsWithNoOrder : (place : ℕ) → List ℕ → Type 0
BeginsWithNoOrder place bytes = (o : ReadOrder) (rest : List ℕ) → FitsOrder o → ¬ (drop place bytes ≡ order_encoding o ++ rest)
