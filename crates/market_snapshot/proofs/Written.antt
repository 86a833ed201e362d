-- Values that are written one after the other.
use Rattle.std.proofs.Common.{◌≡◌, ◌+◌, ◌-◌, ◌<◌, ◌≤◌, ℕ, ℤ, List, [], ◌∷◌, ◌++◌, length, map, take, drop, get_or, length-append, Option, Some, pos, append_assoc, refl, sym, ap, ◌∙◌, subst, arith}
use Rattle.std.specs.Prelude.{SomeIff}
use Rattle.std.specs.List.{flat_map, zip}
use Rattle.std.proofs.lemmas.List.{take_more, take_all, flat_map_more, append-nil, length-map, take-append-drop}
use Rattle.std.proofs.lemmas.Grind.{flat_map-append}
use Rattle.std.proofs.lemmas.List.Folds.{flat_map-map}
use Rattle.std.proofs.lemmas.Slice.Zip.{get_or-zip}
use Rattle.wire_fields.specs.Numbers.{unsigned, signed}
use Rattle.weight_rows.specs.declared.entries.Entry.{Entry}
use Rattle.wire_records.specs.Bodies.{entry_encoding}
use Rattle.flow_accounts.specs.Balances.{Account, Credit, Balances, IsAccount, account_count, asset_count, account_of, credit_of, empty_account, no_credit, units_of, unit_credit_of}
use Rattle.flow_accounts.specs.Lawful.{AreLawful}
use Rattle.flow_orders.specs.Orders.{Order, price_of_ticks}
use Rattle.market_rules.specs.Market.{Market}
use Rattle.wire_records.specs.Versions.{number_of}
use Rattle.market_snapshot.specs.Checkpoints.{checkpoint_bytes, ticks_of, checkpoint_magic}
use Rattle.market_snapshot.specs.Encodings.{units_encoding, account_encoding, order_encoding, accounts_encoding, totals_encoding, exchange_encoding, tickers_encoding, batches_encoding, orders_encoding, parts_encoding, read_order, market_encoding}
use Rattle.market_snapshot.proofs.FieldForms.{market_is_plain}
use Rattle.market_snapshot.specs.Fields.{fields_encoding}
use Rattle.market_snapshot.proofs.OneParts.{length-pairs}
use Rattle.market_snapshot.proofs.Ticks.{ticks_are}

-- the value of an option that has one
pub value_of : {T : Type 0} (o : Option T) (P : Type 0) (v x : T) → SomeIff o P v → o ≡ Some x → x ≡ v
value_of o P v x is some = (subst (λ s. SomeIff s P v) some is).1

-- none is written yet
pub none_written : {A : Type 0} (encode : A → List ℕ) (xs : List A) (old : List ℕ) → old ≡ old ++ flat_map encode (take 0 xs)
none_written encode xs old = sym (append-nil old)

-- one more value
pub one_more : {A : Type 0} (encode : A → List ℕ) (xs : List A) (k : ℕ) (d x : A) (old now next : List ℕ) → k < length xs → get_or xs k d ≡ x → now ≡ old ++ flat_map encode (take k xs) → next ≡ now ++ encode x → next ≡ old ++ flat_map encode (take (k + 1) xs)
one_more encode xs k d x old now next inside at now_is next_is =
    next_is ∙ ap (λ z. z ++ encode x) now_is ∙ flat_map_more encode old (take k xs) x
    ∙ ap (λ ys. old ++ flat_map encode ys) (ap (λ y. take k xs ++ y ∷ []) (sym at) ∙ sym (take_more xs k d inside))

-- all values
pub all_written : {A : Type 0} (encode : A → List ℕ) (xs : List A) (k : ℕ) (old now : List ℕ) → length xs ≤ k → now ≡ old ++ flat_map encode (take k xs) → now ≡ old ++ flat_map encode xs
all_written encode xs k old now past now_is = now_is ∙ ap (λ ys. old ++ flat_map encode ys) (take_all k xs past)

-- two pieces after others
pub two : (old a b now : List ℕ) → now ≡ (old ++ a) ++ b → now ≡ old ++ (a ++ b)
two old a b now is = is ∙ append_assoc old a b

-- four pieces, one after the other
pieces : (old a b c d : List ℕ) → (((old ++ a) ++ b) ++ c) ++ d ≡ old ++ (a ++ (b ++ (c ++ d)))
pieces old a b c d = simp append_assoc

five : (old a b c d e : List ℕ) → ((((old ++ a) ++ b) ++ c) ++ d) ++ e ≡ old ++ (a ++ (b ++ (c ++ (d ++ e))))
five old a b c d e = simp append_assoc

six : (old a b c d e f : List ℕ) → (old ++ (a ++ (b ++ (c ++ (d ++ e))))) ++ f ≡ old ++ (a ++ (b ++ (c ++ (d ++ (e ++ f)))))
six old a b c d e f = simp append_assoc

three : (old a b c : List ℕ) → ((old ++ a) ++ b) ++ c ≡ old ++ (a ++ (b ++ c))
three old a b c = simp append_assoc

-- the units of an account and its credits, as many as there are assets
module _ (b : Balances) (lawful : AreLawful b) (account : ℕ) (there : IsAccount b account) where
  units_each : length (account_of b account).units ≡ asset_count b
  units_each = (lawful.accounts (account - 1) (empty_account 0) (omega (arith, there.0, there.1))).one_each

  credits_each : length (credit_of b account).units ≡ asset_count b
  credits_each = (lawful.credits (account - 1) (no_credit 0) (omega (arith, there.0, there.1, lawful.one_credit_each))).one_each

  pub units_count : length (zip (account_of b account).units (credit_of b account).units) ≡ asset_count b
  units_count = length-pairs (account_of b account).units (credit_of b account).units (credits_each ∙ sym units_each) ∙ units_each

  pub units_at : (asset : ℕ) (units : ℤ) (credit : ℕ) → asset < asset_count b → units ≡ units_of b account asset → credit ≡ unit_credit_of b account asset → get_or (zip (account_of b account).units (credit_of b account).units) asset (pos 0, 0) ≡ (units, credit)
  units_at asset units credit inside u c =
      get_or-zip (account_of b account).units (credit_of b account).units asset (pos 0, 0) (omega (arith, inside, units_each)) (omega (arith, inside, credits_each))
      ∙ ap (λ z. (z, unit_credit_of b account asset)) (sym u) ∙ ap (λ n. (units, n)) (sym c)

-- an account at its place among all
pub accounts_at : (b : Balances) (place : ℕ) → AreLawful b → place < account_count b → get_or (zip b.accounts b.credits) place (empty_account 0, no_credit 0) ≡ (account_of b (place + 1), credit_of b (place + 1))
accounts_at b place lawful inside =
    let at : place ≡ place + 1 - 1 = omega arith in
    get_or-zip b.accounts b.credits place (empty_account 0, no_credit 0) inside (omega (arith, inside, lawful.one_credit_each))
    ∙ ap (λ i. (get_or b.accounts i (empty_account 0), get_or b.credits i (no_credit 0))) at

pub accounts_count : (b : Balances) → AreLawful b → length (zip b.accounts b.credits) ≡ account_count b
accounts_count b lawful = length-pairs b.accounts b.credits lawful.one_credit_each

-- units and credit as one piece
pub units_written : (old : List ℕ) (units : ℤ) (credit : ℕ) → (old ++ signed 8 units) ++ unsigned 8 credit ≡ old ++ units_encoding (units, credit)
unfolding units_encoding
units_written old units credit = append_assoc old (signed 8 units) (unsigned 8 credit)

pub account_written : (old : List ℕ) (a : Account) (c : Credit) (money : ℤ) (ticks : ℕ) → money ≡ a.money → ticks ≡ c.ticks → ((old ++ signed 16 money) ++ unsigned 8 ticks) ++ flat_map units_encoding (zip a.units c.units) ≡ old ++ account_encoding (a, c)
unfolding account_encoding
account_written old a c money ticks m t = three old (signed 16 money) (unsigned 8 ticks) (flat_map units_encoding (zip a.units c.units)) ∙ ap (λ z. old ++ (signed 16 z ++ (unsigned 8 ticks ++ flat_map units_encoding (zip a.units c.units)))) m ∙ ap (λ n. old ++ (signed 16 a.money ++ (unsigned 8 n ++ flat_map units_encoding (zip a.units c.units)))) t

pub accounts_written : (old now : List ℕ) (b : Balances) → now ≡ (old ++ unsigned 4 (account_count b)) ++ flat_map account_encoding (zip b.accounts b.credits) → now ≡ old ++ accounts_encoding b
unfolding accounts_encoding
accounts_written old now b is = two old (unsigned 4 (account_count b)) (flat_map account_encoding (zip b.accounts b.credits)) now is

pub totals_written : (old now : List ℕ) (b : Balances) → now ≡ (old ++ signed 16 b.totals.money) ++ flat_map (signed 8) b.totals.units → now ≡ old ++ totals_encoding b
unfolding totals_encoding
totals_written old now b is = two old (signed 16 b.totals.money) (flat_map (signed 8) b.totals.units) now is

pub exchange_written : (old now : List ℕ) (a : Account) → now ≡ (old ++ signed 16 a.money) ++ flat_map (signed 8) a.units → now ≡ old ++ exchange_encoding a
unfolding exchange_encoding
exchange_written old now a is = two old (signed 16 a.money) (flat_map (signed 8) a.units) now is

pub tickers_written : (old now : List ℕ) (version : ℕ) (tickers : List (List ℕ)) → now ≡ (((old ++ checkpoint_magic) ++ unsigned 1 version) ++ unsigned 2 (length tickers)) ++ flat_map (λ t. t) tickers → now ≡ old ++ tickers_encoding version tickers
unfolding tickers_encoding
tickers_written old now version tickers is = is ∙ pieces old checkpoint_magic (unsigned 1 version) (unsigned 2 (length tickers)) (flat_map (λ t. t) tickers)

pub batches_written : (old now : List ℕ) (next batches : ℕ) (prices : List ℤ) → now ≡ ((old ++ unsigned 8 next) ++ unsigned 4 batches) ++ flat_map (signed 8) prices → now ≡ old ++ batches_encoding next batches prices
unfolding batches_encoding
batches_written old now next batches prices is = is ∙ three old (unsigned 8 next) (unsigned 4 batches) (flat_map (signed 8) prices)

pub orders_written : (old now : List ℕ) (orders : List Order) → now ≡ (old ++ unsigned 4 (length orders)) ++ flat_map (λ o. order_encoding (read_order o)) orders → now ≡ old ++ orders_encoding (map read_order orders)
unfolding orders_encoding
orders_written old now orders is =
    two old (unsigned 4 (length orders)) (flat_map (λ o. order_encoding (read_order o)) orders) now is
    ∙ ap (λ n. old ++ (unsigned 4 n ++ flat_map (λ o. order_encoding (read_order o)) orders)) (sym (length-map orders read_order))
    ∙ ap (λ z. old ++ (unsigned 4 (length (map read_order orders)) ++ z)) (sym (flat_map-map order_encoding read_order orders))

-- ten pieces, one after the other
ten : (old a b c d e f g h i j : List ℕ) → (((((((((old ++ a) ++ b) ++ c) ++ d) ++ e) ++ f) ++ g) ++ h) ++ i) ++ j ≡ old ++ (a ++ (b ++ (c ++ (d ++ (e ++ (f ++ (g ++ (h ++ (i ++ j)))))))))
ten old a b c d e f g h i j = simp append_assoc

pub order_written : (old : List ℕ) (o : Order) (number account : ℕ) (low high : ℤ) (rate cap filled last count : ℕ) (row : List Entry) → number ≡ o.number → account ≡ o.account → price_of_ticks low ≡ o.low → price_of_ticks high ≡ o.high → rate ≡ o.rate → cap ≡ o.cap → filled ≡ o.filled → last ≡ o.last → count ≡ length o.row → row ≡ o.row
    → (((((((((old ++ unsigned 8 number) ++ unsigned 4 account) ++ signed 8 low) ++ signed 8 high) ++ unsigned 4 rate) ++ unsigned 8 cap) ++ unsigned 8 filled) ++ unsigned 4 last) ++ unsigned 1 count) ++ flat_map entry_encoding row ≡ old ++ order_encoding (read_order o)
unfolding order_encoding
order_written old o number account low high rate cap filled last count row a b l h q c f t n r =
    let low_is : low ≡ ticks_of o.low = sym (ticks_are o.low low (sym l)) in
    let high_is : high ≡ ticks_of o.high = sym (ticks_are o.high high (sym h)) in
    rw (a, b, low_is, high_is, q, c, f, t, n, r)
    (ten old (unsigned 8 o.number) (unsigned 4 o.account) (signed 8 (ticks_of o.low)) (signed 8 (ticks_of o.high)) (unsigned 4 o.rate) (unsigned 8 o.cap) (unsigned 8 o.filled) (unsigned 4 o.last) (unsigned 1 (length o.row)) (flat_map entry_encoding o.row))

-- how long values and one more are together
pub longer : {A : Type 0} (encode : A → List ℕ) (xs : List A) (k : ℕ) (x : A) → k < length xs → x ≡ get_or xs k x → length (flat_map encode (take (k + 1) xs)) ≡ length (flat_map encode (take k xs)) + length (encode x)
longer encode xs k x inside is =
    sym (ap length (one_more encode xs k x x [] (flat_map encode (take k xs)) (flat_map encode (take k xs) ++ encode x) inside (sym is) refl refl))
    ∙ length-append (flat_map encode (take k xs)) (encode x)

-- the next value has room beside those before it
pub room_left : {A : Type 0} (encode : A → List ℕ) (xs : List A) (k : ℕ) (x : A) → k < length xs → x ≡ get_or xs k x → length (flat_map encode (take k xs)) + length (encode x) ≤ length (flat_map encode xs)
room_left encode xs k x inside is =
    let parts = ap (flat_map encode) (sym (take-append-drop (k + 1) xs)) ∙ flat_map-append encode (take (k + 1) xs) (drop (k + 1) xs) in
    omega (arith, longer encode xs k x inside is, ap length parts, length-append (flat_map encode (take (k + 1) xs)) (flat_map encode (drop (k + 1) xs)))

-- all parts of a market
pub fields_written : (old now : List ℕ) (m : Market) → now ≡ ((((old ++ tickers_encoding (number_of m.version) m.tickers) ++ accounts_encoding m.balances) ++ totals_encoding m.balances) ++ exchange_encoding m.exchange) ++ batches_encoding m.next_order m.batches m.last_prices → now ≡ old ++ fields_encoding m
unfolding fields_encoding
fields_written old now m is = is ∙ five old (tickers_encoding (number_of m.version) m.tickers) (accounts_encoding m.balances) (totals_encoding m.balances) (exchange_encoding m.exchange) (batches_encoding m.next_order m.batches m.last_prices)

pub market_written : (old now : List ℕ) (m : Market) → now ≡ (old ++ fields_encoding m) ++ orders_encoding (map read_order m.orders) → now ≡ old ++ checkpoint_bytes m
unfolding fields_encoding market_encoding parts_encoding
market_written old now m is = is ∙ six old (tickers_encoding (number_of m.version) m.tickers) (accounts_encoding m.balances) (totals_encoding m.balances) (exchange_encoding m.exchange) (batches_encoding m.next_order m.batches m.last_prices) (orders_encoding (map read_order m.orders))
    ∙ ap (λ bytes. old ++ bytes) (sym (market_is_plain m))
