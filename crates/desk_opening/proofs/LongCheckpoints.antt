-- Each checkpoint is longer than the line that says a version.
use Rattle.std.proofs.Common.{◌≡◌, ℕ, ℤ, ◌+◌, ◌≤◌, List, ◌∷◌, ◌++◌, length, map, ap, ◌∙◌, arith, length-append}
use Rattle.std.specs.List.{flat_map, zip}
use Rattle.std.proofs.lemmas.Grind.{flat_map-append}
use Rattle.wire_fields.specs.Numbers.{signed}
use Rattle.wire_fields.proofs.Encoding.{length-signed}
use Rattle.wire_records.specs.Fields.{Field, Unsigned, Signed, Bytes, field_bytes}
use Rattle.wire_records.specs.Versions.{number_of}
use Rattle.flow_accounts.specs.Balances.{account_count}
use Rattle.market_rules.specs.Market.{Market}
use Rattle.market_snapshot.specs.Checkpoints.{checkpoint_magic, account_fields, order_fields, checkpoint_bytes}

-- how many bytes fields have
abbrev size : List Field → ℕ
size fields = length (flat_map field_bytes fields)

both : (a b : List Field) → size (a ++ b) ≡ size a + size b
both a b = ap length (flat_map-append field_bytes a b) ∙ length-append (flat_map field_bytes a) (flat_map field_bytes b)

more_signed : (n : ℕ) (value : ℤ) (fields : List Field) → size (Signed n value ∷ fields) ≡ n + size fields
more_signed n value fields = omega (arith, length-append (signed n value) (flat_map field_bytes fields), length-signed n value)

-- its totals alone have as many bytes
pub checkpoint_long : (m : Market) → 16 ≤ length (checkpoint_bytes m)
unfolding checkpoint_bytes
checkpoint_long m =
    let head : List Field = Bytes 8 checkpoint_magic ∷ Unsigned 1 (number_of m.version) ∷ Unsigned 2 (length m.tickers) ∷ map (Bytes 8) m.tickers in
    let accounts : List Field = Unsigned 4 (account_count m.balances) ∷ flat_map account_fields (zip m.balances.accounts m.balances.credits) in
    let totals : List Field = Signed 16 m.balances.totals.money ∷ map (Signed 8) m.balances.totals.units in
    let exchange : List Field = Signed 16 m.exchange.money ∷ map (Signed 8) m.exchange.units in
    let batches : List Field = Unsigned 8 m.next_order ∷ Unsigned 4 m.batches ∷ map (Signed 8) m.last_prices in
    let orders : List Field = Unsigned 4 (length m.orders) ∷ flat_map order_fields m.orders in
    omega (
      arith,
      both ((((head ++ accounts) ++ totals) ++ exchange) ++ batches) orders,
      both (((head ++ accounts) ++ totals) ++ exchange) batches,
      both ((head ++ accounts) ++ totals) exchange,
      both (head ++ accounts) totals,
      more_signed 16 m.balances.totals.money (map (Signed 8) m.balances.totals.units),
    )
