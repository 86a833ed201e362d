-- What is read at the places of a layout is encoded by the bytes, and fits.
use Rattle.std.proofs.Common.{◌≡◌, ◌+◌, ◌-◌, ◌*◌, ◌<◌, ◌≤◌, ℕ, suc, List, [], ◌∷◌, ◌++◌, length, map, take, get_or, refl, sym, ap, ◌∙◌, subst, arith}
use Rattle.std.specs.Prelude.{All}
use Rattle.std.specs.Int.{w64}
use Rattle.std.specs.List.{flat_map, zip, range_with_len}
use Rattle.std.proofs.Math.Nat as nat
use Rattle.std.proofs.lemmas.List.{length-map}
use Rattle.std.proofs.lemmas.List.Elements.{All-map}
use Rattle.std.proofs.lemmas.List.Folds.{flat_map-map}
use Rattle.std.proofs.lemmas.List.FromFn.{length-map-range_with_len, get_or-range_with_len, length-range_with_len}
use Rattle.wire_fields.specs.Numbers.{unsigned, signed, IsUnsigned, IsSigned}
use Rattle.byte_places.specs.Places.{part, unsigned_at, signed_at}
use Rattle.byte_places.proofs.Digits.{length-part, unsigned_encoded, signed_encoded_4, signed_encoded_8, signed_encoded_16}
use Rattle.byte_places.proofs.Parts.{part_join, parts_join}
use Rattle.wire_records.specs.Bodies.{entry_encoding, IsEntry}
use Rattle.flow_accounts.specs.Balances.{account_count}
use Rattle.flow_orders.specs.Orders.{most_orders}
use Rattle.market_parts.specs.Parts.{ReadOrder}
use Rattle.market_snapshot.specs.declared.layout.Layout.{Layout}
use Rattle.market_snapshot.specs.Encodings.{units_encoding, account_encoding, order_encoding, tickers_encoding, accounts_encoding, totals_encoding, exchange_encoding, batches_encoding, orders_encoding, parts_encoding}
use Rattle.market_snapshot.specs.Widths.{FitUnits, FitsAccount, FitsOrder, FitWidths}
use Rattle.market_snapshot.specs.Layout.{account_size, signs_at, tickers_at, account_at, credit_at, entry_at, entries_at, order_size, order_at, account_place, balances_at, parts_at, count_place, first_place, IsLayout, AreOrders}

-- two adjacent parts of bytes are one part
join : (x y : List ℕ) (p a q b c : ℕ) (bytes : List ℕ) → x ≡ part p a bytes → y ≡ part q b bytes → q ≡ p + a → c ≡ a + b → x ++ y ≡ part p c bytes
join x y p a q b c bytes here next place size =
    ap (λ z. z ++ y) here ∙ ap (λ z. part p a bytes ++ z) (next ∙ ap (λ k. part k b bytes) place) ∙ part_join p a b bytes ∙ ap (λ n. part p n bytes) (sym size)

-- what holds at each place holds of a list of places
all_range : (P : ℕ → Type 0) (n : ℕ) → ((k : ℕ) → k < n → P k) → All P (range_with_len 0 n)
all_range P n each i d inside =
    let within : i < n = omega (arith, inside, length-range_with_len 0 n) in
    let same : get_or (range_with_len 0 n) i d ≡ i = get_or-range_with_len 0 n i d within ∙ omega arith in
    subst P (sym same) (each i within)

all_made : {A : Type 0} (P : A → Type 0) (f : ℕ → A) (n : ℕ) → ((k : ℕ) → k < n → P (f k)) → All P (map f (range_with_len 0 n))
all_made P f n each = All-map P f (range_with_len 0 n) (all_range (λ k. P (f k)) n each)

-- zipping two lists that are made from the same places
zip_made : {A B : Type 0} (f : ℕ → A) (g : ℕ → B) (xs : List ℕ) → zip (map f xs) (map g xs) ≡ map (λ k. (f k, g k)) xs
zip_made f g [] = refl
zip_made f g (x ∷ xs) = ap (λ zs. (f x, g x) ∷ zs) (zip_made f g xs)

-- the bytes of n values of one size, from a place on
made_encoded : {A : Type 0} (encode : A → List ℕ) (f : ℕ → A) (size place n : ℕ) (bytes : List ℕ) → ((k : ℕ) → k < n → encode (f k) ≡ part (place + size * k) size bytes) → flat_map encode (map f (range_with_len 0 n)) ≡ part place (size * n) bytes
made_encoded encode f size place n bytes each =
    let start : place + size * 0 ≡ place = omega arith in
    flat_map-map encode f (range_with_len 0 n)
    ∙ parts_join (λ k. encode (f k)) size place 0 n bytes (λ k low high. each k (omega (arith, high)))
    ∙ ap (λ p. part p (size * n) bytes) start

-- value k of n values of one size ends before they all do
pub within : (size k n : ℕ) → k < n → size * k + size ≤ size * n
within size k n below = let one : size * k + size ≡ size * suc k = sym (nat.mul-suc size k) in subst (λ m. m ≤ size * n) (sym one) (nat.mul-le-mul_left size (omega (arith, below)))

module _ (bytes : List ℕ) (small : All (λ b. b < 256) bytes) where
  -- numbers with a sign
  signs_encoded : (n place : ℕ) → place + 8 * n ≤ length bytes → flat_map (signed 8) (signs_at n place bytes) ≡ part place (8 * n) bytes
  signs_encoded n place there =
      made_encoded (signed 8) (λ k. signed_at w64 (place + 8 * k) bytes) 8 place n bytes (λ k below. (signed_encoded_8 (place + 8 * k) bytes (omega (arith, there, below)) small).encoded)

  signs_fit : (n place : ℕ) → place + 8 * n ≤ length bytes → All (IsSigned 8) (signs_at n place bytes)
  signs_fit n place there = all_made (IsSigned 8) (λ k. signed_at w64 (place + 8 * k) bytes) n (λ k below. (signed_encoded_8 (place + 8 * k) bytes (omega (arith, there, below)) small).fits)

  signs_count : (n place : ℕ) → length (signs_at n place bytes) ≡ n
  signs_count n place = length-map-range_with_len (λ k. signed_at w64 (place + 8 * k) bytes) 0 n

  -- units of an asset, and the credit in it
  units_encoded : (place : ℕ) → place + 16 ≤ length bytes → units_encoding (signed_at w64 place bytes, unsigned_at 8 (place + 8) bytes) ≡ part place 16 bytes
  unfolding units_encoding
  units_encoded place there =
      join _ _ place 8 (place + 8) 8 16 bytes (signed_encoded_8 place bytes (omega (arith, there)) small).encoded (unsigned_encoded 8 (place + 8) bytes (omega (arith, there)) small).encoded refl refl

  module _ (assets place : ℕ) (there : place + account_size assets ≤ length bytes) where
    pairs : zip (account_at assets place bytes).units (credit_at assets place bytes).units ≡ map (λ k. (signed_at w64 (place + 24 + 16 * k) bytes, unsigned_at 8 (place + 32 + 16 * k) bytes)) (range_with_len 0 assets)
    pairs = zip_made (λ k. signed_at w64 (place + 24 + 16 * k) bytes) (λ k. unsigned_at 8 (place + 32 + 16 * k) bytes) (range_with_len 0 assets)

    all_units_encoded : flat_map units_encoding (zip (account_at assets place bytes).units (credit_at assets place bytes).units) ≡ part (place + 24) (16 * assets) bytes
    all_units_encoded =
        ap (flat_map units_encoding) pairs
        ∙ made_encoded units_encoding (λ k. (signed_at w64 (place + 24 + 16 * k) bytes, unsigned_at 8 (place + 32 + 16 * k) bytes)) 16 (place + 24) assets bytes
        (λ k below.
        let same : place + 32 + 16 * k ≡ place + 24 + 16 * k + 8 = omega arith in
        ap (λ p. units_encoding (signed_at w64 (place + 24 + 16 * k) bytes, unsigned_at 8 p bytes)) same ∙ units_encoded (place + 24 + 16 * k) (omega (arith, there, below)))

    account_encoded : account_encoding (account_at assets place bytes, credit_at assets place bytes) ≡ part place (account_size assets) bytes
    unfolding account_encoding
    account_encoded =
        join _ _ place 16 (place + 16) (8 + 16 * assets) (account_size assets) bytes (signed_encoded_16 place bytes (omega (arith, there)) small).encoded
        (join _ _ (place + 16) 8 (place + 24) (16 * assets) (8 + 16 * assets) bytes (unsigned_encoded 8 (place + 16) bytes (omega (arith, there)) small).encoded all_units_encoded (omega arith) refl)
        refl (omega arith)

    account_fits : FitsAccount assets (account_at assets place bytes, credit_at assets place bytes)
    account_fits = record {
      money = (signed_encoded_16 place bytes (omega (arith, there)) small).fits;
      ticks = (unsigned_encoded 8 (place + 16) bytes (omega (arith, there)) small).fits;
      balances = length-map-range_with_len (λ k. signed_at w64 (place + 24 + 16 * k) bytes) 0 assets;
      credits = length-map-range_with_len (λ k. unsigned_at 8 (place + 32 + 16 * k) bytes) 0 assets;
      units = subst (All FitUnits) (sym pairs) (all_made FitUnits (λ k. (signed_at w64 (place + 24 + 16 * k) bytes, unsigned_at 8 (place + 32 + 16 * k) bytes)) assets
          (λ k below. ((signed_encoded_8 (place + 24 + 16 * k) bytes (omega (arith, there, below)) small).fits, (unsigned_encoded 8 (place + 32 + 16 * k) bytes (omega (arith, there, below)) small).fits)));
    }

  -- a leg
  entry_encoded : (place : ℕ) → place + 6 ≤ length bytes → entry_encoding (entry_at place bytes) ≡ part place 6 bytes
  unfolding entry_encoding
  entry_encoded place there =
      join _ _ place 2 (place + 2) 4 6 bytes (unsigned_encoded 2 place bytes (omega (arith, there)) small).encoded (signed_encoded_4 (place + 2) bytes (omega (arith, there)) small).encoded refl refl

  module _ (place : ℕ) (there : place + order_size place bytes ≤ length bytes) where
    count : length (order_at place bytes).row ≡ entries_at place bytes
    count = length-map-range_with_len (λ j. entry_at (place + 53 + 6 * j) bytes) 0 (entries_at place bytes)

    row_encoded : flat_map entry_encoding (order_at place bytes).row ≡ part (place + 53) (6 * entries_at place bytes) bytes
    row_encoded = made_encoded entry_encoding (λ j. entry_at (place + 53 + 6 * j) bytes) 6 (place + 53) (entries_at place bytes) bytes (λ j below. entry_encoded (place + 53 + 6 * j) (omega (arith, there, below)))

    pub order_encoded : order_encoding (order_at place bytes) ≡ part place (order_size place bytes) bytes
    unfolding order_encoding
    order_encoded =
        let e = 6 * entries_at place bytes in
        join _ _ place 8 (place + 8) (45 + e) (53 + e) bytes (unsigned_encoded 8 place bytes (omega (arith, there)) small).encoded
        (join _ _ (place + 8) 4 (place + 12) (41 + e) (45 + e) bytes (unsigned_encoded 4 (place + 8) bytes (omega (arith, there)) small).encoded
        (join _ _ (place + 12) 8 (place + 20) (33 + e) (41 + e) bytes (signed_encoded_8 (place + 12) bytes (omega (arith, there)) small).encoded
        (join _ _ (place + 20) 8 (place + 28) (25 + e) (33 + e) bytes (signed_encoded_8 (place + 20) bytes (omega (arith, there)) small).encoded
        (join _ _ (place + 28) 4 (place + 32) (21 + e) (25 + e) bytes (unsigned_encoded 4 (place + 28) bytes (omega (arith, there)) small).encoded
        (join _ _ (place + 32) 8 (place + 40) (13 + e) (21 + e) bytes (unsigned_encoded 8 (place + 32) bytes (omega (arith, there)) small).encoded
        (join _ _ (place + 40) 8 (place + 48) (5 + e) (13 + e) bytes (unsigned_encoded 8 (place + 40) bytes (omega (arith, there)) small).encoded
        (join _ _ (place + 48) 4 (place + 52) (1 + e) (5 + e) bytes (unsigned_encoded 4 (place + 48) bytes (omega (arith, there)) small).encoded
        (join _ _ (place + 52) 1 (place + 53) e (1 + e) bytes (ap (unsigned 1) count ∙ (unsigned_encoded 1 (place + 52) bytes (omega (arith, there)) small).encoded) row_encoded
        (omega arith) (omega arith)) (omega arith) (omega arith)) (omega arith) (omega arith)) (omega arith) (omega arith)) (omega arith) (omega arith)) (omega arith) (omega arith)) (omega arith) (omega arith)) (omega arith) (omega arith)) (omega arith) (omega arith)

    pub order_fits : FitsOrder (order_at place bytes)
    order_fits = record {
      number = (unsigned_encoded 8 place bytes (omega (arith, there)) small).fits;
      account = (unsigned_encoded 4 (place + 8) bytes (omega (arith, there)) small).fits;
      low = (signed_encoded_8 (place + 12) bytes (omega (arith, there)) small).fits;
      high = (signed_encoded_8 (place + 20) bytes (omega (arith, there)) small).fits;
      rate = (unsigned_encoded 4 (place + 28) bytes (omega (arith, there)) small).fits;
      cap = (unsigned_encoded 8 (place + 32) bytes (omega (arith, there)) small).fits;
      filled = (unsigned_encoded 8 (place + 40) bytes (omega (arith, there)) small).fits;
      last = (unsigned_encoded 4 (place + 48) bytes (omega (arith, there)) small).fits;
      count = subst (IsUnsigned 1) (sym count) (unsigned_encoded 1 (place + 52) bytes (omega (arith, there)) small).fits;
      row = all_made IsEntry (λ j. entry_at (place + 53 + 6 * j) bytes) (entries_at place bytes)
          (λ j below. ((unsigned_encoded 2 (place + 53 + 6 * j) bytes (omega (arith, there, below)) small).fits, (signed_encoded_4 (place + 53 + 6 * j + 2) bytes (omega (arith, there, below)) small).fits));
    }

  module _ (l : Layout) (laid : IsLayout bytes l) where
    -- each account is there
    account_there : (k : ℕ) → k < l.accounts → account_place l.assets k + account_size l.assets ≤ l.totals
    account_there k below = omega (arith, within (account_size l.assets) k l.accounts below, laid.totals)

    account_pairs : zip (balances_at l bytes).accounts (balances_at l bytes).credits ≡ map (λ k. (account_at l.assets (account_place l.assets k) bytes, credit_at l.assets (account_place l.assets k) bytes)) (range_with_len 0 l.accounts)
    account_pairs = zip_made (λ k. account_at l.assets (account_place l.assets k) bytes) (λ k. credit_at l.assets (account_place l.assets k) bytes) (range_with_len 0 l.accounts)

    all_accounts_encoded : flat_map account_encoding (zip (balances_at l bytes).accounts (balances_at l bytes).credits) ≡ part (15 + 8 * l.assets) (account_size l.assets * l.accounts) bytes
    all_accounts_encoded =
        ap (flat_map account_encoding) account_pairs
        ∙ made_encoded account_encoding (λ k. (account_at l.assets (account_place l.assets k) bytes, credit_at l.assets (account_place l.assets k) bytes)) (account_size l.assets) (15 + 8 * l.assets) l.accounts bytes
        (λ k below. account_encoded l.assets (account_place l.assets k) (omega (arith, account_there k below, laid.whole)))

    tickers_encoded : flat_map (λ t. t) (tickers_at l.assets bytes) ≡ part 11 (8 * l.assets) bytes
    tickers_encoded = made_encoded (λ t. t) (λ k. part (11 + 8 * k) 8 bytes) 8 11 l.assets bytes (λ k below. refl)

    tickers_count : length (tickers_at l.assets bytes) ≡ l.assets
    tickers_count = length-map-range_with_len (λ k. part (11 + 8 * k) 8 bytes) 0 l.assets

    accounts_count : account_count (balances_at l bytes) ≡ l.accounts
    accounts_count = length-map-range_with_len (λ k. account_at l.assets (account_place l.assets k) bytes) 0 l.accounts

    head_encoded : tickers_encoding (unsigned_at 1 8 bytes) (tickers_at l.assets bytes) ≡ part 0 (11 + 8 * l.assets) bytes
    unfolding tickers_encoding
    head_encoded =
        join _ _ 0 8 8 (3 + 8 * l.assets) (11 + 8 * l.assets) bytes (sym laid.magic)
        (join _ _ 8 1 9 (2 + 8 * l.assets) (3 + 8 * l.assets) bytes (unsigned_encoded 1 8 bytes (omega (arith, laid.whole, laid.totals)) small).encoded
        (join _ _ 9 2 11 (8 * l.assets) (2 + 8 * l.assets) bytes (ap (unsigned 2) (tickers_count ∙ laid.assets) ∙ (unsigned_encoded 2 9 bytes (omega (arith, laid.whole, laid.totals)) small).encoded) tickers_encoded
        refl refl) refl (omega arith)) refl (omega arith)

    accounts_encoded : accounts_encoding (balances_at l bytes) ≡ part (11 + 8 * l.assets) (4 + account_size l.assets * l.accounts) bytes
    unfolding accounts_encoding
    accounts_encoded =
        join _ _ (11 + 8 * l.assets) 4 (15 + 8 * l.assets) (account_size l.assets * l.accounts) (4 + account_size l.assets * l.accounts) bytes
        (ap (unsigned 4) (accounts_count ∙ laid.accounts) ∙ (unsigned_encoded 4 (11 + 8 * l.assets) bytes (omega (arith, laid.whole, laid.totals)) small).encoded) all_accounts_encoded (omega arith) refl

    totals_encoded : totals_encoding (balances_at l bytes) ≡ part l.totals (16 + 8 * l.assets) bytes
    unfolding totals_encoding
    totals_encoded =
        join _ _ l.totals 16 (l.totals + 16) (8 * l.assets) (16 + 8 * l.assets) bytes (signed_encoded_16 l.totals bytes (omega (arith, laid.whole)) small).encoded
        (signs_encoded l.assets (l.totals + 16) (omega (arith, laid.whole))) refl refl

    exchange_encoded : (orders : List ℕ) → exchange_encoding (parts_at l bytes orders).exchange ≡ part (l.totals + 16 + 8 * l.assets) (16 + 8 * l.assets) bytes
    unfolding exchange_encoding
    exchange_encoded orders =
        join _ _ (l.totals + 16 + 8 * l.assets) 16 (l.totals + 32 + 8 * l.assets) (8 * l.assets) (16 + 8 * l.assets) bytes (signed_encoded_16 (l.totals + 16 + 8 * l.assets) bytes (omega (arith, laid.whole)) small).encoded
        (signs_encoded l.assets (l.totals + 32 + 8 * l.assets) (omega (arith, laid.whole))) (omega arith) refl

    batches_encoded : (orders : List ℕ) → batches_encoding (parts_at l bytes orders).next_order (parts_at l bytes orders).batches (parts_at l bytes orders).last_prices ≡ part (l.totals + 32 + 16 * l.assets) (12 + 8 * l.assets) bytes
    unfolding batches_encoding
    batches_encoded orders =
        join _ _ (l.totals + 32 + 16 * l.assets) 8 (l.totals + 40 + 16 * l.assets) (4 + 8 * l.assets) (12 + 8 * l.assets) bytes (unsigned_encoded 8 (l.totals + 32 + 16 * l.assets) bytes (omega (arith, laid.whole)) small).encoded
        (join _ _ (l.totals + 40 + 16 * l.assets) 4 (l.totals + 44 + 16 * l.assets) (8 * l.assets) (4 + 8 * l.assets) bytes (unsigned_encoded 4 (l.totals + 40 + 16 * l.assets) bytes (omega (arith, laid.whole)) small).encoded
        (signs_encoded l.assets (l.totals + 44 + 16 * l.assets) (omega (arith, laid.whole))) (omega arith) refl) (omega arith) (omega arith)

    module _ (end : ℕ) (orders : List ℕ) (are : AreOrders bytes (first_place l) end orders) (many : unsigned_at 4 (count_place l) bytes ≡ length orders) (few : length orders ≤ most_orders) where
      abbrev read : List ReadOrder
      read = map (λ p. order_at p bytes) orders

      read_count : length read ≡ length orders
      read_count = length-map orders (λ p. order_at p bytes)

      tail_encoded : orders_encoding read ≡ part (count_place l) (end - count_place l) bytes
      unfolding orders_encoding
      tail_encoded =
          join _ _ (count_place l) 4 (first_place l) (end - first_place l) (end - count_place l) bytes
          (ap (unsigned 4) (read_count ∙ sym many) ∙ (unsigned_encoded 4 (count_place l) bytes (omega (arith, laid.whole)) small).encoded) are.encoded (omega arith) (omega (arith, are.forward))

      pub all_encoded : parts_encoding (parts_at l bytes orders) ≡ take end bytes
      unfolding parts_encoding
      all_encoded =
          let size = account_size l.assets * l.accounts in
          let t = end - l.totals in
          join _ _ 0 (11 + 8 * l.assets) (11 + 8 * l.assets) (4 + size + t) end bytes head_encoded
          (join _ _ (11 + 8 * l.assets) (4 + size) l.totals t (4 + size + t) bytes accounts_encoded
          (join _ _ l.totals (16 + 8 * l.assets) (l.totals + 16 + 8 * l.assets) (end - (l.totals + 16 + 8 * l.assets)) t bytes totals_encoded
          (join _ _ (l.totals + 16 + 8 * l.assets) (16 + 8 * l.assets) (l.totals + 32 + 16 * l.assets) (end - (l.totals + 32 + 16 * l.assets)) (end - (l.totals + 16 + 8 * l.assets)) bytes (exchange_encoded orders)
          (join _ _ (l.totals + 32 + 16 * l.assets) (12 + 8 * l.assets) (count_place l) (end - count_place l) (end - (l.totals + 32 + 16 * l.assets)) bytes (batches_encoded orders) tail_encoded
          (omega arith) (omega (arith, are.forward))) (omega arith) (omega (arith, are.forward))) (omega arith) (omega (arith, are.forward))) (omega (arith, laid.totals)) refl) (omega arith) (omega (arith, are.forward, laid.totals))

      pub all_fit : FitWidths (parts_at l bytes orders)
      all_fit = record {
        version = (unsigned_encoded 1 8 bytes (omega (arith, laid.whole, laid.totals)) small).fits;
        assets = subst (IsUnsigned 2) (sym (tickers_count ∙ laid.assets)) (unsigned_encoded 2 9 bytes (omega (arith, laid.whole, laid.totals)) small).fits;
        tickers = all_made (λ (t : List ℕ). length t ≡ 8) (λ k. part (11 + 8 * k) 8 bytes) l.assets (λ k below. length-part (11 + 8 * k) 8 bytes (omega (arith, below, laid.whole, laid.totals)));
        balances = record {
          count = subst (IsUnsigned 4) (sym (accounts_count ∙ laid.accounts)) (unsigned_encoded 4 (11 + 8 * l.assets) bytes (omega (arith, laid.whole, laid.totals)) small).fits;
          one_each = length-map-range_with_len (λ k. credit_at l.assets (account_place l.assets k) bytes) 0 l.accounts ∙ sym accounts_count;
          accounts = subst (λ n. All (FitsAccount n) (zip (balances_at l bytes).accounts (balances_at l bytes).credits)) (sym tickers_count)
              (subst (All (FitsAccount l.assets)) (sym account_pairs)
              (all_made (FitsAccount l.assets) (λ k. (account_at l.assets (account_place l.assets k) bytes, credit_at l.assets (account_place l.assets k) bytes)) l.accounts
              (λ k below. account_fits l.assets (account_place l.assets k) (omega (arith, account_there k below, laid.whole)))));
          total_money = (signed_encoded_16 l.totals bytes (omega (arith, laid.whole)) small).fits;
          totals = signs_count l.assets (l.totals + 16) ∙ sym tickers_count;
          total_units = signs_fit l.assets (l.totals + 16) (omega (arith, laid.whole));
        };
        exchange = record {
          money = (signed_encoded_16 (l.totals + 16 + 8 * l.assets) bytes (omega (arith, laid.whole)) small).fits;
          balances = signs_count l.assets (l.totals + 32 + 8 * l.assets) ∙ sym tickers_count;
          units = signs_fit l.assets (l.totals + 32 + 8 * l.assets) (omega (arith, laid.whole));
        };
        next = (unsigned_encoded 8 (l.totals + 32 + 16 * l.assets) bytes (omega (arith, laid.whole)) small).fits;
        batches = (unsigned_encoded 4 (l.totals + 40 + 16 * l.assets) bytes (omega (arith, laid.whole)) small).fits;
        price_each = signs_count l.assets (l.totals + 44 + 16 * l.assets) ∙ sym tickers_count;
        prices = signs_fit l.assets (l.totals + 44 + 16 * l.assets) (omega (arith, laid.whole));
        few = omega (arith, read_count, few);
        orders = All-map FitsOrder (λ p. order_at p bytes) orders (λ i d inside. order_fits (get_or orders i d) (are.there i d inside));
      }
