-- What is read at a place is what the lists of all parts have there.
use Rattle.std.proofs.Common.{◌≡◌, ◌+◌, ◌-◌, ◌*◌, ◌<◌, ◌≤◌, ℕ, ℤ, List, length, map, get_or, Option, Some, None, ⊎_elim, pos, refl, sym, ap, ◌∙◌, arith}
use Rattle.std.specs.Prelude.{SomeIff, slice_get}
use Rattle.std.specs.Int.{w64, w128}
use Rattle.std.specs.List.{range_with_len}
use Rattle.std.proofs.lemmas.Bool.{cases_lt}
use Rattle.std.proofs.lemmas.List.Elements.{All-map}
use Rattle.std.proofs.lemmas.List.FromFn.{length-map-range_with_len, get_or-map-range_with_len}
use Rattle.std.proofs.lemmas.Option.{slice_get_past, slice_get-get_or}
use Rattle.byte_places.specs.Places.{part, unsigned_at, signed_at}
use Rattle.flow_accounts.specs.Balances.{Account, Credit, IsAccount, IsAsset, account_count, asset_count, account_of, credit_of, empty_account, no_credit, money_of, money_credit_of, units_of, unit_credit_of, total_units_of}
use Rattle.flow_accounts.specs.Parts.{HasOneOfEach}
use Rattle.market_parts.specs.declared.order.OrderParts.{OrderParts}
use Rattle.market_parts.specs.Parts.{ReadOrder, numbers_of, HasOneForEach}
use Rattle.market_snapshot.specs.declared.layout.Layout.{Layout}
use Rattle.market_snapshot.specs.Layout.{account_at, credit_at, account_place, balances_at, parts_at}

-- an option that has a value if a claim holds, under an equivalent claim
some_iff : {T : Type 0} (o : Option T) (P Q : Type 0) (v w : T) → SomeIff o P v → (P → Q) → (Q → P) → (P → v ≡ w) → SomeIff o Q w
some_iff None P Q v w not to from same = λ q. not (from q)
some_iff (Some x) P Q v w is to from same = (to is.0, is.1 ∙ same is.0)

-- the element at a place of a list that is made place by place
pub at_place : {T : Type 0} (f : ℕ → T) (n k : ℕ) (d : T) → k < n → get_or (map f (range_with_len 0 n)) k d ≡ f k
at_place f n k d inside = get_or-map-range_with_len f 0 n k k d inside (omega arith)

pub slice_told : {T : Type 0} (f : ℕ → T) (n k : ℕ) (o : Option T) → SomeIff o (k < n) (f k) → o ≡ slice_get (map f (range_with_len 0 n)) k
slice_told f n k None not =
    ⊎_elim
    (λ (below : k < n). absurd (not below))
    (λ (past : n ≤ k). sym (slice_get_past (map f (range_with_len 0 n)) k (omega (arith, past, length-map-range_with_len f 0 n))))
    (cases_lt k n)
slice_told f n k (Some x) is =
    ap Some (is.1 ∙ sym (at_place f n k (f k) is.0)) ∙ sym (slice_get-get_or (map f (range_with_len 0 n)) k (f k) (omega (arith, is.0, length-map-range_with_len f 0 n)))

module _ (l : Layout) (bytes : List ℕ) where
  pub account_count_is : account_count (balances_at l bytes) ≡ l.accounts
  account_count_is = length-map-range_with_len (λ k. account_at l.assets (account_place l.assets k) bytes) 0 l.accounts

  pub asset_count_is : asset_count (balances_at l bytes) ≡ l.assets
  asset_count_is = length-map-range_with_len (λ k. signed_at w64 (l.totals + 16 + 8 * k) bytes) 0 l.assets

  account_is : (account : ℕ) → (0 < account) × (account ≤ l.accounts) → account_of (balances_at l bytes) account ≡ account_at l.assets (account_place l.assets (account - 1)) bytes
  account_is account there = at_place (λ k. account_at l.assets (account_place l.assets k) bytes) l.accounts (account - 1) (empty_account 0) (omega (arith, there.0, there.1))

  credit_is : (account : ℕ) → (0 < account) × (account ≤ l.accounts) → credit_of (balances_at l bytes) account ≡ credit_at l.assets (account_place l.assets (account - 1)) bytes
  credit_is account there = at_place (λ k. credit_at l.assets (account_place l.assets k) bytes) l.accounts (account - 1) (no_credit 0) (omega (arith, there.0, there.1))

  is_account : (account : ℕ) → (0 < account) × (account ≤ l.accounts) → IsAccount (balances_at l bytes) account
  is_account account there = (there.0, omega (arith, there.1, account_count_is))

  has_account : (account : ℕ) → IsAccount (balances_at l bytes) account → (0 < account) × (account ≤ l.accounts)
  has_account account there = (there.0, omega (arith, there.1, account_count_is))

  is_asset : (asset : ℕ) → asset < l.assets → IsAsset (balances_at l bytes) asset
  is_asset asset there = omega (arith, there, asset_count_is)

  has_asset : (asset : ℕ) → IsAsset (balances_at l bytes) asset → asset < l.assets
  has_asset asset there = omega (arith, there, asset_count_is)

  pub one_of_each : HasOneOfEach (balances_at l bytes)
  one_of_each = record {
    accounts = All-map (λ (a : Account). length a.units ≡ asset_count (balances_at l bytes)) (λ k. account_at l.assets (account_place l.assets k) bytes) (range_with_len 0 l.accounts)
        (λ i d inside. length-map-range_with_len (λ k. signed_at w64 (account_place l.assets (get_or (range_with_len 0 l.accounts) i d) + 24 + 16 * k) bytes) 0 l.assets ∙ sym asset_count_is);
    lines = length-map-range_with_len (λ k. credit_at l.assets (account_place l.assets k) bytes) 0 l.accounts ∙ sym account_count_is;
    credits = All-map (λ (c : Credit). length c.units ≡ asset_count (balances_at l bytes)) (λ k. credit_at l.assets (account_place l.assets k) bytes) (range_with_len 0 l.accounts)
        (λ i d inside. length-map-range_with_len (λ k. unsigned_at 8 (account_place l.assets (get_or (range_with_len 0 l.accounts) i d) + 32 + 16 * k) bytes) 0 l.assets ∙ sym asset_count_is);
  }

  pub one_for_each : (orders : List ℕ) → HasOneForEach (parts_at l bytes orders)
  one_for_each orders = record {
    tickers = length-map-range_with_len (λ k. part (11 + 8 * k) 8 bytes) 0 l.assets ∙ sym asset_count_is;
    exchange = length-map-range_with_len (λ k. signed_at w64 (l.totals + 32 + 8 * l.assets + 8 * k) bytes) 0 l.assets ∙ sym asset_count_is;
    prices = length-map-range_with_len (λ k. signed_at w64 (l.totals + 44 + 16 * l.assets + 8 * k) bytes) 0 l.assets ∙ sym asset_count_is;
  }

  pub money_told : (account : ℕ) (o : Option ℤ) → SomeIff o ((0 < account) × (account ≤ l.accounts)) (signed_at w128 (account_place l.assets (account - 1)) bytes) → SomeIff o (IsAccount (balances_at l bytes) account) (money_of (balances_at l bytes) account)
  money_told account o is = some_iff o _ _ _ _ is (is_account account) (has_account account) (λ there. sym (ap (λ (a : Account). a.money) (account_is account there)))

  pub money_credit_told : (account : ℕ) (o : Option ℕ) → SomeIff o ((0 < account) × (account ≤ l.accounts)) (unsigned_at 8 (account_place l.assets (account - 1) + 16) bytes) → SomeIff o (IsAccount (balances_at l bytes) account) (money_credit_of (balances_at l bytes) account)
  money_credit_told account o is = some_iff o _ _ _ _ is (is_account account) (has_account account) (λ there. sym (ap (λ (c : Credit). c.ticks) (credit_is account there)))

  pub units_told : (account asset : ℕ) (o : Option ℤ) → SomeIff o (((0 < account) × (account ≤ l.accounts)) × (asset < l.assets)) (signed_at w64 (account_place l.assets (account - 1) + 24 + 16 * asset) bytes) → SomeIff o (IsAccount (balances_at l bytes) account × IsAsset (balances_at l bytes) asset) (units_of (balances_at l bytes) account asset)
  units_told account asset o is =
      some_iff o _ _ _ _ is
      (λ there. (is_account account there.0, is_asset asset there.1))
      (λ there. (has_account account there.0, has_asset asset there.1))
      (λ there. sym (ap (λ (a : Account). get_or a.units asset (pos 0)) (account_is account there.0) ∙ at_place (λ k. signed_at w64 (account_place l.assets (account - 1) + 24 + 16 * k) bytes) l.assets asset (pos 0) there.1))

  pub unit_credit_told : (account asset : ℕ) (o : Option ℕ) → SomeIff o (((0 < account) × (account ≤ l.accounts)) × (asset < l.assets)) (unsigned_at 8 (account_place l.assets (account - 1) + 32 + 16 * asset) bytes) → SomeIff o (IsAccount (balances_at l bytes) account × IsAsset (balances_at l bytes) asset) (unit_credit_of (balances_at l bytes) account asset)
  unit_credit_told account asset o is =
      some_iff o _ _ _ _ is
      (λ there. (is_account account there.0, is_asset asset there.1))
      (λ there. (has_account account there.0, has_asset asset there.1))
      (λ there. sym (ap (λ (c : Credit). get_or c.units asset 0) (credit_is account there.0) ∙ at_place (λ k. unsigned_at 8 (account_place l.assets (account - 1) + 32 + 16 * k) bytes) l.assets asset 0 there.1))

  pub total_units_told : (asset : ℕ) (o : Option ℤ) → SomeIff o (asset < l.assets) (signed_at w64 (l.totals + 16 + 8 * asset) bytes) → SomeIff o (IsAsset (balances_at l bytes) asset) (total_units_of (balances_at l bytes) asset)
  total_units_told asset o is =
      some_iff o _ _ _ _ is (is_asset asset) (has_asset asset)
      (λ there. sym (at_place (λ k. signed_at w64 (l.totals + 16 + 8 * k) bytes) l.assets asset (pos 0) there))

-- an order's numbers are equal if each is
pub same_numbers : (o : ReadOrder) (number account : ℕ) (low high : ℤ) (rate cap filled last entries : ℕ) → number ≡ o.number → account ≡ o.account → low ≡ o.low → high ≡ o.high → rate ≡ o.rate → cap ≡ o.cap → filled ≡ o.filled → last ≡ o.last → entries ≡ length o.row → ◌≡◌ {A = OrderParts} (record { number = number; account = account; low = low; high = high; rate = rate; cap = cap; filled = filled; last = last; entries = entries }) (numbers_of o)
same_numbers o number account low high rate cap filled last entries a b c d e f g h i = rw (a, b, c, d, e, f, g, h, i) refl
