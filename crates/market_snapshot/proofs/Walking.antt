-- Going from order to order, and what precedes the first one.
use Rattle.std.proofs.Common.{◌≡◌, ◌+◌, ◌-◌, ◌*◌, ◌^◌, ◌<◌, ◌≤◌, ℕ, suc, ℤ, List, [], ◌∷◌, ◌++◌, length, map, take, drop, get_or, append_assoc, length-append, length-drop, refl, sym, ap, ◌∙◌, arith}
use Rattle.std.specs.Prelude.{All}
use Rattle.std.specs.List.{flat_map, zip}
use Rattle.std.proofs.Math.Nat as nat
use Rattle.std.proofs.lemmas.List.{map-append, drop-drop, drop_at, drop_more, take_at, append-nil}
use Rattle.std.proofs.lemmas.List.Elements.{All-nil, All-push}
use Rattle.std.proofs.lemmas.Grind.{flat_map-append}
use Rattle.flow_orders.proofs.Limits.{orders_fit}
use Rattle.wire_fields.specs.Numbers.{unsigned, signed}
use Rattle.wire_fields.proofs.Encoding.{length-unsigned, length-signed}
use Rattle.byte_places.specs.Places.{part, unsigned_at}
use Rattle.byte_places.proofs.Digits.{unsigned_here}
use Rattle.byte_places.proofs.Parts.{part_join}
use Rattle.wire_records.specs.Bodies.{entry_encoding}
use Rattle.wire_records.proofs.CodeLaws.{counted_size}
use Rattle.wire_records.proofs.Requests.{entry_size}
use Rattle.flow_accounts.specs.Balances.{Account, Credit, account_count}
use Rattle.market_parts.specs.Parts.{ReadOrder, Parts}
use Rattle.market_snapshot.specs.Checkpoints.{checkpoint_magic}
use Rattle.market_snapshot.specs.Encodings.{units_encoding, account_encoding, order_encoding, tickers_encoding, accounts_encoding, totals_encoding, exchange_encoding, batches_encoding, orders_encoding, parts_encoding}
use Rattle.market_snapshot.specs.Widths.{FitsAccount, FitsOrder, FitWidths}
use Rattle.market_snapshot.specs.Layout.{account_size, order_size, order_at, AreOrders}
use Rattle.market_snapshot.proofs.Laid.{order_encoded}
use Rattle.market_snapshot.proofs.OneParts.{length-pairs}

-- what follows a piece
skip : (bytes prefix back : List ℕ) (p a q : ℕ) → drop p bytes ≡ prefix ++ back → length prefix ≡ a → q ≡ p + a → drop q bytes ≡ back
skip bytes prefix back p a q here size place = ap (λ k. drop k bytes) place ∙ sym (drop-drop a p bytes) ∙ ap (drop a) here ∙ drop_at prefix back a size

-- a piece that is there is inside
inside : (bytes prefix back : List ℕ) (p a : ℕ) → drop p bytes ≡ prefix ++ back → length prefix ≡ a → 0 < a → p + a ≤ length bytes
inside bytes prefix back p a here size some = omega (arith, length-drop p bytes, ap length here, length-append prefix back, size, some)

-- the length of values of one size
sized : {A : Type 0} (Fits : A → Type 0) (encode : A → List ℕ) (size : ℕ) → ((a : A) → Fits a → length (encode a) ≡ size) → (values : List A) → All Fits values → length (flat_map encode values) ≡ size * length values
sized Fits encode size each [] fit = omega arith
sized Fits encode size each (a ∷ values) fit =
    let here = each a (fit 0 a (omega arith)) in
    let others = sized Fits encode size each values (λ i d below. fit (suc i) d (omega (arith, below))) in
    length-append (encode a) (flat_map encode values) ∙ omega (arith, here, others, nat.mul-suc size (length values))

-- how long the units of an asset and the credit in it are
units_length : (u : ℤ × ℕ) → length (units_encoding u) ≡ 16
unfolding units_encoding
units_length u = simp (length-append, length-unsigned, length-signed)

-- how long an account is
account_length : (assets : ℕ) (a : Account × Credit) → FitsAccount assets a → length (account_encoding a) ≡ account_size assets
unfolding account_encoding
account_length assets a fits =
    let units = counted_size units_encoding 16 units_length (zip a.0.units a.1.units) in
    let many = length-pairs a.0.units a.1.units (fits.credits ∙ sym fits.balances) ∙ fits.balances in
    simp (length-append, length-unsigned, length-signed) (omega (arith, units, many))

-- how long an order is
pub order_length : (o : ReadOrder) → length (order_encoding o) ≡ 53 + 6 * length o.row
unfolding order_encoding
order_length o = simp (length-append, length-unsigned, length-signed) (omega (arith, counted_size entry_encoding 6 entry_size o.row))

-- the numbers of an order and the number of its legs, with what follows
nine : (a b c d e f g h i j x : List ℕ) → (a ++ (b ++ (c ++ (d ++ (e ++ (f ++ (g ++ (h ++ (i ++ j))))))))) ++ x ≡ (a ++ (b ++ (c ++ (d ++ (e ++ (f ++ (g ++ h))))))) ++ (i ++ (j ++ x))
nine a b c d e f g h i j x = simp append_assoc

-- an order at a place has the size that is read there
pub record StandsAt (o : ReadOrder) (place : ℕ) (bytes rest : List ℕ) : Type 0 where
  pub short : place + 53 ≤ length bytes
  pub size : order_size place bytes ≡ 53 + 6 * length o.row
  pub whole : place + order_size place bytes ≤ length bytes
  pub following : drop (place + order_size place bytes) bytes ≡ rest

pub stands : (o : ReadOrder) (place : ℕ) (bytes rest : List ℕ) → FitsOrder o → drop place bytes ≡ order_encoding o ++ rest → StandsAt o place bytes rest
unfolding order_encoding
stands o place bytes rest fits here =
    let numbers = unsigned 8 o.number ++ (unsigned 4 o.account ++ (signed 8 o.low ++ (signed 8 o.high ++ (unsigned 4 o.rate ++ (unsigned 8 o.cap ++ (unsigned 8 o.filled ++ unsigned 4 o.last)))))) in
    let apart = here ∙ nine (unsigned 8 o.number) (unsigned 4 o.account) (signed 8 o.low) (signed 8 o.high) (unsigned 4 o.rate) (unsigned 8 o.cap) (unsigned 8 o.filled) (unsigned 4 o.last) (unsigned 1 (length o.row)) (flat_map entry_encoding o.row) rest in
    let long : length numbers ≡ 52 = simp (length-append, length-unsigned, length-signed) in
    let count = skip bytes numbers (unsigned 1 (length o.row) ++ (flat_map entry_encoding o.row ++ rest)) place 52 (place + 52) apart long refl in
    let entries = unsigned_here 1 (place + 52) (length o.row) bytes (flat_map entry_encoding o.row ++ rest) fits.count count in
    let size : order_size place bytes ≡ 53 + 6 * length o.row = ap (λ n. 53 + 6 * n) entries in
    let there = inside bytes (order_encoding o) rest place (53 + 6 * length o.row) here (order_length o) (omega arith) in
    record {
      short = omega (arith, there);
      size = size;
      whole = omega (arith, there, size);
      following = skip bytes (order_encoding o) rest place (53 + 6 * length o.row) (place + order_size place bytes) here (order_length o) (ap (λ n. place + n) size);
    }

-- no order yet
pub none_yet : (bytes : List ℕ) (first : ℕ) → first ≤ length bytes → AreOrders bytes first first []
none_yet bytes first there = record {
  there = All-nil (λ p. p + order_size p bytes ≤ length bytes);
  encoded = ap (λ n. part first n bytes) (let none : 0 ≡ first - first = omega arith in none);
  forward = omega arith;
  inside = there;
}

-- one more order
pub one_more : (bytes : List ℕ) → All (λ b. b < 256) bytes → (first end size : ℕ) (places : List ℕ) → AreOrders bytes first end places → size ≡ order_size end bytes → end + size ≤ length bytes → AreOrders bytes first (end + size) (places ++ end ∷ [])
one_more bytes small first end size places so_far size_is there =
    let whole : end + order_size end bytes ≤ length bytes = omega (arith, there, size_is) in
    let here : order_encoding (order_at end bytes) ≡ part end size bytes = order_encoded bytes small end whole ∙ ap (λ n. part end n bytes) (sym size_is) in
    let seam : end ≡ first + (end - first) = omega (arith, so_far.forward) in
    let more : flat_map order_encoding (map (λ p. order_at p bytes) (places ++ end ∷ [])) ≡ flat_map order_encoding (map (λ p. order_at p bytes) places) ++ (order_encoding (order_at end bytes) ++ []) =
    ap (flat_map order_encoding) (map-append (λ p. order_at p bytes) places (end ∷ [])) ∙ flat_map-append order_encoding (map (λ p. order_at p bytes) places) (order_at end bytes ∷ []) in
    record {
      there = All-push (λ p. p + order_size p bytes ≤ length bytes) places end so_far.there whole;
      encoded =
          more ∙ ap (λ z. flat_map order_encoding (map (λ p. order_at p bytes) places) ++ z) (append-nil (order_encoding (order_at end bytes)))
          ∙ ap (λ z. z ++ order_encoding (order_at end bytes)) so_far.encoded
          ∙ ap (λ z. part first (end - first) bytes ++ z) (here ∙ ap (λ p. part p size bytes) seam)
          ∙ part_join first (end - first) size bytes ∙ ap (λ n. part first n bytes) (let total : end - first + size ≡ end + size - first = omega (arith, so_far.forward) in total);
      forward = omega (arith, so_far.forward);
      inside = there;
    }

-- if `count` orders that fit follow one another from the first place on, those that weren't passed follow here
unfoldable pub StandAhead : (bytes : List ℕ) (first end passed count : ℕ) → Type 0
StandAhead bytes first end passed count =
    (orders : List ReadOrder) (rest : List ℕ) → length orders ≡ count → All FitsOrder orders → drop first bytes ≡ flat_map order_encoding orders ++ rest → drop end bytes ≡ flat_map order_encoding (drop passed orders) ++ rest

pub none_passed : (bytes : List ℕ) (first count : ℕ) → StandAhead bytes first first 0 count
unfolding StandAhead
none_passed bytes first count orders rest many fit here = here

-- the next order is here
pub next_stands : (bytes : List ℕ) (first end passed count : ℕ) → StandAhead bytes first end passed count → passed < count → (orders : List ReadOrder) (rest : List ℕ) → length orders ≡ count → All FitsOrder orders → drop first bytes ≡ flat_map order_encoding orders ++ rest → (o : ReadOrder) × FitsOrder o × (drop end bytes ≡ order_encoding o ++ (flat_map order_encoding (drop (passed + 1) orders) ++ rest))
unfolding StandAhead
next_stands bytes first end passed count ahead below [] rest many fit here = absurd (omega (arith, many, below))
next_stands bytes first end passed count ahead below (d ∷ orders) rest many fit here =
    let all = d ∷ orders in
    let o = get_or all passed d in
    let within : passed < length all = omega (arith, many, below) in
    (o, fit passed d within, ahead all rest many fit here ∙ ap (λ os. flat_map order_encoding os ++ rest) (drop_more all passed d within) ∙ append_assoc (order_encoding o) (flat_map order_encoding (drop (passed + 1) all)) rest)

pub one_passed : (bytes : List ℕ) (first end passed count size : ℕ) → StandAhead bytes first end passed count → passed < count → size ≡ order_size end bytes → StandAhead bytes first (end + size) (passed + 1) count
unfolding StandAhead
one_passed bytes first end passed count size ahead below size_is orders rest many fit here =
    let next = next_stands bytes first end passed count ahead below orders rest many fit here in
    let at = stands next.0 end bytes (flat_map order_encoding (drop (passed + 1) orders) ++ rest) next.1 next.2 in
    ap (λ n. drop (end + n) bytes) size_is ∙ at.following

-- if no order is here, there aren't `count` orders
pub stopped : (bytes : List ℕ) (first end passed count : ℕ) → StandAhead bytes first end passed count → passed < count → ((o : ReadOrder) (rest : List ℕ) → FitsOrder o → ¬ (drop end bytes ≡ order_encoding o ++ rest)) → (orders : List ReadOrder) (rest : List ℕ) → length orders ≡ count → All FitsOrder orders → ¬ (drop first bytes ≡ flat_map order_encoding orders ++ rest)
stopped bytes first end passed count ahead below none orders rest many fit here =
    let next = next_stands bytes first end passed count ahead below orders rest many fit here in
    none next.0 (flat_map order_encoding (drop (passed + 1) orders) ++ rest) next.1 next.2

-- what is read of bytes that begin with parts that fit
pub record HasPrefix (p : Parts) (bytes rest : List ℕ) : Type 0 where
  pub magic : take 8 bytes ≡ checkpoint_magic
  pub eleven : 11 ≤ length bytes
  pub assets : unsigned_at 2 9 bytes ≡ length p.tickers
  pub some_accounts : 15 + 8 * length p.tickers ≤ length bytes
  pub accounts : unsigned_at 4 (11 + 8 * length p.tickers) bytes ≡ account_count p.balances
  pub whole : 15 + 8 * length p.tickers + account_size (length p.tickers) * account_count p.balances + 48 + 24 * length p.tickers ≤ length bytes
  pub count : unsigned_at 4 (15 + 8 * length p.tickers + account_size (length p.tickers) * account_count p.balances + 44 + 24 * length p.tickers) bytes ≡ length p.orders
  pub orders : drop (15 + 8 * length p.tickers + account_size (length p.tickers) * account_count p.balances + 48 + 24 * length p.tickers) bytes ≡ flat_map order_encoding p.orders ++ rest

four : (a b c d x : List ℕ) → (a ++ (b ++ (c ++ d))) ++ x ≡ a ++ (b ++ (c ++ (d ++ x)))
four a b c d x = simp append_assoc

six : (a b c d e f x : List ℕ) → (a ++ (b ++ (c ++ (d ++ (e ++ f))))) ++ x ≡ a ++ (b ++ (c ++ (d ++ (e ++ (f ++ x)))))
six a b c d e f x = simp append_assoc

-- the length of the totals
totals_length : (p : Parts) → FitWidths p → length (totals_encoding p.balances) ≡ 16 + 8 * length p.tickers
unfolding totals_encoding
totals_length p fits = simp (length-append, length-signed) (omega (arith, counted_size (signed 8) 8 (length-signed 8) p.balances.totals.units, fits.balances.totals))

exchange_length : (p : Parts) → FitWidths p → length (exchange_encoding p.exchange) ≡ 16 + 8 * length p.tickers
unfolding exchange_encoding
exchange_length p fits = simp (length-append, length-signed) (omega (arith, counted_size (signed 8) 8 (length-signed 8) p.exchange.units, fits.exchange.balances))

batches_length : (p : Parts) → FitWidths p → length (batches_encoding p.next_order p.batches p.last_prices) ≡ 12 + 8 * length p.tickers
unfolding batches_encoding
batches_length p fits = simp (length-append, length-unsigned) (omega (arith, counted_size (signed 8) 8 (length-signed 8) p.last_prices, fits.price_each))

pub prefix : (p : Parts) (bytes rest : List ℕ) → FitWidths p → bytes ≡ parts_encoding p ++ rest → HasPrefix p bytes rest
unfolding parts_encoding tickers_encoding accounts_encoding orders_encoding
prefix p bytes rest fits is =
    let n = length p.tickers in
    let a = account_count p.balances in
    let size = account_size n * a in
    let t = 15 + 8 * n + size in
    let tickers = flat_map (λ (b : List ℕ). b) p.tickers in
    let accounts = flat_map account_encoding (zip p.balances.accounts p.balances.credits) in
    let totals = totals_encoding p.balances in
    let exchange = exchange_encoding p.exchange in
    let batches = batches_encoding p.next_order p.batches p.last_prices in
    let tail = unsigned 4 (length p.orders) ++ (flat_map order_encoding p.orders ++ rest) in
    let after_accounts = totals ++ (exchange ++ (batches ++ (orders_encoding p.orders ++ rest))) in
    let after_tickers = accounts_encoding p.balances ++ after_accounts in
    let start = is ∙ six (tickers_encoding p.version p.tickers) (accounts_encoding p.balances) totals exchange batches (orders_encoding p.orders) rest
    ∙ four checkpoint_magic (unsigned 1 p.version) (unsigned 2 n) tickers after_tickers in
    let at_8 = skip bytes checkpoint_magic (unsigned 1 p.version ++ (unsigned 2 n ++ (tickers ++ after_tickers))) 0 8 8 start refl refl in
    let at_9 = skip bytes (unsigned 1 p.version) (unsigned 2 n ++ (tickers ++ after_tickers)) 8 1 9 at_8 (length-unsigned 1 p.version) refl in
    let at_11 = skip bytes (unsigned 2 n) (tickers ++ after_tickers) 9 2 11 at_9 (length-unsigned 2 n) refl in
    let at_count = skip bytes tickers after_tickers 11 (8 * n) (11 + 8 * n) at_11 (sized (λ (b : List ℕ). length b ≡ 8) (λ b. b) 8 (λ b e. e) p.tickers fits.tickers) refl
    ∙ append_assoc (unsigned 4 a) accounts after_accounts in
    let at_accounts = skip bytes (unsigned 4 a) (accounts ++ after_accounts) (11 + 8 * n) 4 (15 + 8 * n) at_count (length-unsigned 4 a) (omega arith) in
    let accounts_size = sized (FitsAccount n) account_encoding (account_size n) (account_length n) (zip p.balances.accounts p.balances.credits) fits.balances.accounts
    ∙ ap (λ m. account_size n * m) (length-pairs p.balances.accounts p.balances.credits fits.balances.one_each) in
    let at_totals : drop t bytes ≡ after_accounts = skip bytes accounts after_accounts (15 + 8 * n) size t at_accounts accounts_size refl in
    let totals_size = totals_length p fits in
    let exchange_size = exchange_length p fits in
    let batches_size = batches_length p fits in
    let at_exchange = skip bytes totals (exchange ++ (batches ++ (orders_encoding p.orders ++ rest))) t (16 + 8 * n) (t + 16 + 8 * n) at_totals totals_size (omega arith) in
    let at_batches = skip bytes exchange (batches ++ (orders_encoding p.orders ++ rest)) (t + 16 + 8 * n) (16 + 8 * n) (t + 32 + 16 * n) at_exchange exchange_size (omega arith) in
    let at_tail : drop (t + 44 + 24 * n) bytes ≡ tail = skip bytes batches (orders_encoding p.orders ++ rest) (t + 32 + 16 * n) (12 + 8 * n) (t + 44 + 24 * n) at_batches batches_size (omega arith)
    ∙ append_assoc (unsigned 4 (length p.orders)) (flat_map order_encoding p.orders) rest in
    let few : length p.orders < 2 ^ 32 = omega (arith, fits.few, orders_fit) in
    record {
      magic = ap (take 8) start ∙ take_at checkpoint_magic (unsigned 1 p.version ++ (unsigned 2 n ++ (tickers ++ after_tickers))) 8 refl;
      eleven = inside bytes (unsigned 2 n) _ 9 2 at_9 (length-unsigned 2 n) (omega arith);
      assets = unsigned_here 2 9 n bytes _ fits.assets at_9;
      some_accounts = omega (arith, inside bytes (unsigned 4 a) _ (11 + 8 * n) 4 at_count (length-unsigned 4 a) (omega arith));
      accounts = unsigned_here 4 (11 + 8 * n) a bytes _ fits.balances.count at_count;
      whole = omega (arith, inside bytes (unsigned 4 (length p.orders)) _ (t + 44 + 24 * n) 4 at_tail (length-unsigned 4 (length p.orders)) (omega arith));
      count = unsigned_here 4 (t + 44 + 24 * n) (length p.orders) bytes _ few at_tail;
      orders = skip bytes (unsigned 4 (length p.orders)) _ (t + 44 + 24 * n) 4 (t + 48 + 24 * n) at_tail (length-unsigned 4 (length p.orders)) (omega arith);
    }
