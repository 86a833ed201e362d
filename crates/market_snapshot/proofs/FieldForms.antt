-- The bytes of a market by its fields are those part by part.
use Rattle.std.proofs.Common.{◌≡◌, ℕ, ℤ, List, [], ◌∷◌, ◌++◌, length, map, append_assoc, refl, sym, ap, ◌∙◌}
use Rattle.std.specs.List.{flat_map, zip}
use Rattle.std.proofs.lemmas.Grind.{flat_map-append}
use Rattle.std.proofs.lemmas.List.{append-nil, length-map}
use Rattle.std.proofs.lemmas.List.Folds.{flat_map-map}
use Rattle.wire_fields.specs.Numbers.{unsigned, signed}
use Rattle.weight_rows.specs.declared.entries.Entry.{Entry}
use Rattle.wire_records.specs.Fields.{Field, Unsigned, Signed, Bytes, field_bytes}
use Rattle.wire_records.specs.CommandRecords.{entry_fields}
use Rattle.wire_records.specs.Bodies.{entry_encoding}
use Rattle.wire_records.specs.Versions.{number_of}
use Rattle.flow_accounts.specs.Balances.{Account, Credit, account_count}
use Rattle.flow_orders.specs.Orders.{Order}
use Rattle.market_rules.specs.Market.{Market}
use Rattle.market_snapshot.specs.Checkpoints.{checkpoint_magic, ticks_of, account_fields, order_fields, checkpoint_bytes}
use Rattle.market_snapshot.specs.Encodings.{units_encoding, account_encoding, order_encoding, tickers_encoding, accounts_encoding, totals_encoding, exchange_encoding, batches_encoding, orders_encoding, parts_encoding, read_order, market_encoding}

-- the fields of each value of a list are its bytes
each_by : {X : Type 0} (fields : X → List Field) (encode : X → List ℕ) → ((x : X) → flat_map field_bytes (fields x) ≡ encode x) → (xs : List X) → flat_map field_bytes (flat_map fields xs) ≡ flat_map encode xs
each_by fields encode one [] = refl
each_by fields encode one (x ∷ xs) =
    flat_map-append field_bytes (fields x) (flat_map fields xs) ∙ ap (λ bytes. bytes ++ flat_map field_bytes (flat_map fields xs)) (one x)
    ∙ ap (λ bytes. encode x ++ bytes) (each_by fields encode one xs)

units_bytes : (u : ℤ × ℕ) → flat_map field_bytes (Signed 8 u.0 ∷ Unsigned 8 u.1 ∷ []) ≡ units_encoding u
unfolding units_encoding
units_bytes u = ap (λ bytes. signed 8 u.0 ++ bytes) (append-nil (unsigned 8 u.1))

account_bytes : (a : Account × Credit) → flat_map field_bytes (account_fields a) ≡ account_encoding a
unfolding account_encoding
account_bytes a = ap (λ bytes. signed 16 a.0.money ++ (unsigned 8 a.1.ticks ++ bytes)) (each_by (λ u. Signed 8 u.0 ∷ Unsigned 8 u.1 ∷ []) units_encoding units_bytes (zip a.0.units a.1.units))

entry_bytes : (e : Entry) → flat_map field_bytes (entry_fields e) ≡ entry_encoding e
unfolding entry_encoding
entry_bytes e = ap (λ bytes. unsigned 2 e.asset ++ bytes) (append-nil (signed 4 e.weight))

order_bytes : (o : Order) → flat_map field_bytes (order_fields o) ≡ order_encoding (read_order o)
unfolding order_encoding
order_bytes o =
    ap (λ bytes. unsigned 8 o.number ++ (unsigned 4 o.account ++ (signed 8 (ticks_of o.low) ++ (signed 8 (ticks_of o.high) ++ (unsigned 4 o.rate ++ (unsigned 8 o.cap ++ (unsigned 8 o.filled ++ (unsigned 4 o.last ++ (unsigned 1 (length o.row) ++ bytes)))))))))
    (each_by entry_fields entry_encoding entry_bytes o.row)

module _ (m : Market) where
  abbrev tickers : List Field
  tickers = Bytes 8 checkpoint_magic ∷ Unsigned 1 (number_of m.version) ∷ Unsigned 2 (length m.tickers) ∷ map (Bytes 8) m.tickers

  abbrev accounts : List Field
  accounts = Unsigned 4 (account_count m.balances) ∷ flat_map account_fields (zip m.balances.accounts m.balances.credits)

  abbrev totals : List Field
  totals = Signed 16 m.balances.totals.money ∷ map (Signed 8) m.balances.totals.units

  abbrev exchange : List Field
  exchange = Signed 16 m.exchange.money ∷ map (Signed 8) m.exchange.units

  abbrev batches : List Field
  batches = Unsigned 8 m.next_order ∷ Unsigned 4 m.batches ∷ map (Signed 8) m.last_prices

  abbrev orders : List Field
  orders = Unsigned 4 (length m.orders) ∷ flat_map order_fields m.orders

  tickers_are : flat_map field_bytes tickers ≡ tickers_encoding (number_of m.version) m.tickers
  unfolding tickers_encoding
  tickers_are = ap (λ bytes. checkpoint_magic ++ (unsigned 1 (number_of m.version) ++ (unsigned 2 (length m.tickers) ++ bytes))) (flat_map-map field_bytes (Bytes 8) m.tickers)

  accounts_are : flat_map field_bytes accounts ≡ accounts_encoding m.balances
  unfolding accounts_encoding
  accounts_are = ap (λ bytes. unsigned 4 (account_count m.balances) ++ bytes) (each_by account_fields account_encoding account_bytes (zip m.balances.accounts m.balances.credits))

  totals_are : flat_map field_bytes totals ≡ totals_encoding m.balances
  unfolding totals_encoding
  totals_are = ap (λ bytes. signed 16 m.balances.totals.money ++ bytes) (flat_map-map field_bytes (Signed 8) m.balances.totals.units)

  exchange_is : flat_map field_bytes exchange ≡ exchange_encoding m.exchange
  unfolding exchange_encoding
  exchange_is = ap (λ bytes. signed 16 m.exchange.money ++ bytes) (flat_map-map field_bytes (Signed 8) m.exchange.units)

  batches_are : flat_map field_bytes batches ≡ batches_encoding m.next_order m.batches m.last_prices
  unfolding batches_encoding
  batches_are = ap (λ bytes. unsigned 8 m.next_order ++ (unsigned 4 m.batches ++ bytes)) (flat_map-map field_bytes (Signed 8) m.last_prices)

  orders_are : flat_map field_bytes orders ≡ orders_encoding (map read_order m.orders)
  unfolding orders_encoding
  orders_are =
      ap (λ bytes. unsigned 4 (length m.orders) ++ bytes) (each_by order_fields (λ o. order_encoding (read_order o)) order_bytes m.orders ∙ sym (flat_map-map order_encoding read_order m.orders))
      ∙ ap (λ n. unsigned 4 n ++ flat_map order_encoding (map read_order m.orders)) (sym (length-map m.orders read_order))

-- six parts, one after the other
six : (a b c d e f : List ℕ) → a ++ b ++ c ++ d ++ e ++ f ≡ a ++ (b ++ (c ++ (d ++ (e ++ f))))
six a b c d e f = simp append_assoc

-- the bytes of a market are those of its parts
pub market_is_plain : (m : Market) → checkpoint_bytes m ≡ market_encoding m
unfolding checkpoint_bytes parts_encoding market_encoding
market_is_plain m =
    let a = tickers m in
    let b = accounts m in
    let c = totals m in
    let d = exchange m in
    let e = batches m in
    let f = orders m in
    let bytes = flat_map field_bytes in
    flat_map-append field_bytes (a ++ b ++ c ++ d ++ e) f
    ∙ ap (λ x. x ++ bytes f) (flat_map-append field_bytes (a ++ b ++ c ++ d) e
    ∙ ap (λ x. x ++ bytes e) (flat_map-append field_bytes (a ++ b ++ c) d
    ∙ ap (λ x. x ++ bytes d) (flat_map-append field_bytes (a ++ b) c
    ∙ ap (λ x. x ++ bytes c) (flat_map-append field_bytes a b))))
    ∙ six (bytes a) (bytes b) (bytes c) (bytes d) (bytes e) (bytes f)
    ∙ ap (λ x. x ++ (bytes b ++ (bytes c ++ (bytes d ++ (bytes e ++ bytes f))))) (tickers_are m)
    ∙ ap (λ x. tickers_encoding (number_of m.version) m.tickers ++ (x ++ (bytes c ++ (bytes d ++ (bytes e ++ bytes f))))) (accounts_are m)
    ∙ ap (λ x. tickers_encoding (number_of m.version) m.tickers ++ (accounts_encoding m.balances ++ (x ++ (bytes d ++ (bytes e ++ bytes f))))) (totals_are m)
    ∙ ap (λ x. tickers_encoding (number_of m.version) m.tickers ++ (accounts_encoding m.balances ++ (totals_encoding m.balances ++ (x ++ (bytes e ++ bytes f))))) (exchange_is m)
    ∙ ap (λ x. tickers_encoding (number_of m.version) m.tickers ++ (accounts_encoding m.balances ++ (totals_encoding m.balances ++ (exchange_encoding m.exchange ++ (x ++ bytes f))))) (batches_are m)
    ∙ ap (λ x. tickers_encoding (number_of m.version) m.tickers ++ (accounts_encoding m.balances ++ (totals_encoding m.balances ++ (exchange_encoding m.exchange ++ (batches_encoding m.next_order m.batches m.last_prices ++ x))))) (orders_are m)
