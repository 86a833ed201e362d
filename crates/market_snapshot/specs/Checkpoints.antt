-- Checkpoints: the bytes that keep a market.
use Rattle.std.specs.Prelude.{◌≡◌, ◌≢◌, ◌/◌, ◌^◌, ◌<◌, ℕ, ℤ, pos, negsuc, List, [], ◌∷◌, ◌++◌, length, map, codes, All}
use Rattle.std.specs.List.{flat_map, zip}
use Rattle.wire_records.specs.Fields.{Field, Unsigned, Signed, Bytes, field_bytes}
use Rattle.wire_records.specs.CommandRecords.{entry_fields}
use Rattle.wire_records.specs.Versions.{number_of}
use Rattle.flow_accounts.specs.Balances.{Account, Credit, account_count}
use Rattle.flow_orders.specs.Orders.{Order}
use Rattle.market_rules.specs.Market.{Market, IsConsistent}

-- the first eight bytes of each checkpoint
abbrev pub checkpoint_magic : List ℕ
checkpoint_magic = codes "FLOWSNP1"

-- a price in grains as whole ticks, rounded down
abbrev pub ticks_of : ℤ → ℤ
ticks_of (pos grains) = pos (grains / 2 ^ 32)
ticks_of (negsuc grains) = negsuc (grains / 2 ^ 32)

-- the fields of an account and of its credit line: money, credit in money, and asset by asset its units and its credit in them
abbrev pub account_fields : Account × Credit → List Field
account_fields a = Signed 16 a.0.money ∷ Unsigned 8 a.1.ticks ∷ flat_map (λ u. Signed 8 u.0 ∷ Unsigned 8 u.1 ∷ []) (zip a.0.units a.1.units)

-- the fields of a live order, its limits in ticks: its numbers, how many legs it has, and the legs
abbrev pub order_fields : Order → List Field
order_fields o =
    Unsigned 8 o.number ∷ Unsigned 4 o.account ∷ Signed 8 (ticks_of o.low) ∷ Signed 8 (ticks_of o.high) ∷ Unsigned 4 o.rate
    ∷ Unsigned 8 o.cap ∷ Unsigned 8 o.filled ∷ Unsigned 4 o.last ∷ Unsigned 1 (length o.row) ∷ flat_map entry_fields o.row

-- The fields of a market: the magic, the version, how many assets there are and their tickers; how many accounts there are, and the accounts;
-- the totals of deposits less withdrawals; the exchange's own account; the number that the next order gets, how many batches were held and the
-- last cleared prices; how many live orders there are, and the orders.
abbrev pub checkpoint_fields : Market → List Field
checkpoint_fields m =
    Bytes 8 checkpoint_magic ∷ Unsigned 1 (number_of m.version) ∷ Unsigned 2 (length m.tickers) ∷ map (Bytes 8) m.tickers
    ++ Unsigned 4 (account_count m.balances) ∷ flat_map account_fields (zip m.balances.accounts m.balances.credits)
    ++ Signed 16 m.balances.totals.money ∷ map (Signed 8) m.balances.totals.units
    ++ Signed 16 m.exchange.money ∷ map (Signed 8) m.exchange.units
    ++ Unsigned 8 m.next_order ∷ Unsigned 4 m.batches ∷ map (Signed 8) m.last_prices
    ++ Unsigned 4 (length m.orders) ∷ flat_map order_fields m.orders

-- the bytes of a market, which keep all its parts
unfoldable pub checkpoint_bytes : Market → List ℕ
checkpoint_bytes m = flat_map field_bytes (checkpoint_fields m)

-- bytes are a checkpoint of this market: the market is consistent, its next order number is below 2^63, its orders' last batches fit their
-- fields, and the bytes are the market's
pub record IsCheckpoint (m : Market) (bytes : List ℕ) : Type 0 where
  pub consistent : IsConsistent m
  pub next : m.next_order < 2 ^ 63
  pub last : All (λ (o : Order). o.last < 2 ^ 32) m.orders
  pub encoded : bytes ≡ checkpoint_bytes m

-- the bytes begin with the magic of a checkpoint
abbrev pub HasCheckpointMagic : List ℕ → Type 0
HasCheckpointMagic bytes = (rest : List ℕ) × (bytes ≡ checkpoint_magic ++ rest)

-- no prefix of the bytes is a checkpoint
abbrev pub BeginsWithNoCheckpoint : List ℕ → Type 0
BeginsWithNoCheckpoint bytes = (m : Market) (prefix rest : List ℕ) → IsCheckpoint m prefix → bytes ≢ prefix ++ rest
