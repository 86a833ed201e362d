-- A statement that begins in a market holds what its account has there.
use Rattle.std.proofs.Common.{◌≡◌, ◌⊎◌, inl, inr, ℕ, ◌+◌, ◌<◌, ◌≤◌, Bool, true, false, ℤ, pos, List, [], ◌∷◌, ◌++◌, length, map, take, get_or, refl, sym, ap, subst, ◌∙◌, arith}
use Rattle.std.specs.Prelude.{Result, Ok, Err, OnErr, All, AllPairs, ◌==◌, slice_index_or}
use Rattle.std.specs.List.{filter, range_with_len}
use Rattle.std.proofs.lemmas.Int.{ints}
use Rattle.std.proofs.lemmas.Bool.{cases_Bool, eqb-true, eq-eqb, ne_eqb}
use Rattle.std.proofs.lemmas.List.{append-nil, get_or-take, length-take, get_or_default}
use Rattle.std.proofs.lemmas.List.Elements.{All-filter, filter_more, filter_passes}
use Rattle.std.proofs.lemmas.List.FromFn.{get_or-map-range_with_len, map-range_with_len_more}
use Rattle.flow_accounts.specs.Balances.{IsAccount, asset_count, money_of, units_of}
use Rattle.flow_orders.specs.Orders.{Order, IsOrder, AreLimits, price_of_ticks, most_orders}
use Rattle.market_rules.specs.Market.{Market, IsConsistent}
use Rattle.statement_rules.specs.Views.{is_there}
use Rattle.statement_rules.specs.Holdings.{own_orders, IsHeld}
use Rattle.statement_rules.proofs.Told.{there_is, is_account}
use Rattle.account_statement.specs.Private.{HasOwnOrder}

-- no more orders pass a test than there are
few_pass : (p : Order → Bool) (orders : List Order) → length (filter p orders) ≤ length orders
few_pass p [] = omega arith
few_pass p (o ∷ orders) = by (few_pass p orders) (cases_Bool (p o))
  where
    by : length (filter p orders) ≤ length orders → (p o ≡ true) ⊎ (p o ≡ false) → length (filter p (o ∷ orders)) ≤ length (o ∷ orders)
    by rest (inl one) = rw one (omega (arith, rest))
    by rest (inr one) = rw one (omega (arith, rest))

-- ---- own orders, one by one

abbrev is_own : ℕ → Order → Bool
is_own account o = o.account == account

module _ (account : ℕ) (orders : List Order) (i : ℕ) (o : Order) (inside : i < length orders) (is : o ≡ get_or orders i o) where
  one_more : (b : Bool) → is_own account o ≡ b → own_orders account (take (i + 1) orders) ≡ own_orders account (take i orders) ++ filter (λ (x : Order). b) (o ∷ [])
  one_more b own =
      filter_more (is_own account) orders i o inside ∙ ap (λ (x : Order). own_orders account (take i orders) ++ filter (λ (y : Order). is_own account x) (x ∷ [])) (sym is)
      ∙ ap (λ (c : Bool). own_orders account (take i orders) ++ filter (λ (y : Order). c) (o ∷ [])) own

  pub own_one : o.account ≡ account → (held : List Order) → held ≡ own_orders account (take i orders) → held ++ o ∷ [] ≡ own_orders account (take (i + 1) orders)
  own_one own held so = ap (λ l. l ++ o ∷ []) so ∙ sym (one_more true (eq-eqb o.account account own))

  pub own_skipped : (o.account ≡ account → ⊥) → (held : List Order) → held ≡ own_orders account (take i orders) → held ≡ own_orders account (take (i + 1) orders)
  own_skipped other held so = so ∙ sym (append-nil (own_orders account (take i orders))) ∙ sym (one_more false (ne_eqb o.account account other))

  -- the account's own orders before one in the book have lower numbers
  pub own_below : AllPairs (λ (x : Order) (later : Order). x.number < later.number) orders → (held : List Order) → held ≡ own_orders account (take i orders) → All (λ (x : Order). x.number < o.number) held
  own_below ascending held so =
      subst (All (λ (x : Order). x.number < o.number)) (sym so)
      (All-filter (is_own account) (λ (x : Order). x.number < o.number) (take i orders) (λ k d within.
      let before : k < i = omega (arith, within, length-take i orders) in
      let less : (get_or orders k d).number < (get_or orders i d).number = ascending k i d before inside in
      let there : get_or orders i d ≡ o = get_or_default orders i d o inside ∙ sym is in
      subst (λ (x : Order). x.number < o.number) (sym (get_or-take i orders k d before)) (subst (λ (x : Order). (get_or orders k d).number < x.number) there less)))

  -- before an order in the book, the account's own orders are fewer than a book may hold
  pub own_few : length orders ≤ most_orders → (held : List Order) → held ≡ own_orders account (take i orders) → length held < most_orders
  own_few few held so = omega (arith, few, inside, ap length so, few_pass (is_own account) (take i orders), length-take i orders)

  pub own_there : o.account ≡ account → HasOwnOrder account orders
  own_there own = (i, inside, λ d. ap (λ (x : Order). x.account) (get_or_default orders i d o inside ∙ sym is) ∙ own)

-- an account that has an order in a market is there
pub orders_owner : (account : ℕ) (m : Market) → IsConsistent m → HasOwnOrder account m.orders → IsAccount m.balances account
orders_owner account m consistent (place, inside, own) =
    let some : Order = record { number = 0; account = 0; low = pos 0; high = pos 0; rate = 0; cap = 0; filled = 0; row = []; last = 0 } in
    subst (IsAccount m.balances) (own some) (consistent.live place some inside).account

-- each of an account's own orders names this account
pub all_own : (account : ℕ) (orders held : List Order) → held ≡ own_orders account orders → All (λ (o : Order). o.account ≡ account) held
all_own account orders held so =
    subst (All (λ (o : Order). o.account ≡ account)) (sym so) (λ k d inside. eqb-true _ account (filter_passes (is_own account) orders k d inside))

-- ---- what is held

pub units_there : (account n : ℕ) (m : Market) (units : List ℤ) → (0 < account → units ≡ map (units_of m.balances account) (range_with_len 0 n)) → 0 < account → (asset : ℕ) → asset < n → slice_index_or units asset (pos 0) ≡ units_of m.balances account asset
units_there account n m units are some asset inside = ap (λ l. get_or l asset (pos 0)) (are some) ∙ get_or-map-range_with_len (units_of m.balances account) 0 n asset asset (pos 0) inside (omega arith)

-- the units of the next asset are appended
pub units_more : (account n : ℕ) (f : ℕ → ℤ) (units new : List ℤ) (one : ℤ) → (0 < account → units ≡ map f (range_with_len 0 n)) → new ≡ units ++ one ∷ [] → (0 < account → one ≡ f n)
    → 0 < account → new ≡ map f (range_with_len 0 (n + 1))
units_more account n f units new one are is so some = is ∙ ap (λ l. l ++ one ∷ []) (are some) ∙ ap (λ z. map f (range_with_len 0 n) ++ z ∷ []) (so some) ∙ sym (map-range_with_len_more f 0 n n (omega arith))

-- a test that decides whether there is such an account is `is_there`
pub opened_as : (account : ℕ) (m : Market) (b : Bool) → (b ≡ true → IsAccount m.balances account) → (IsAccount m.balances account → b ≡ true) → b ≡ is_there m account
opened_as account m true to back = sym (there_is m account (to refl))
opened_as account m false to back = by (cases_Bool (is_there m account))
  where
    by : (is_there m account ≡ true) ⊎ (is_there m account ≡ false) → false ≡ is_there m account
    by (inl there) = back (is_account m account there) ∙ sym there
    by (inr absent) = sym absent

-- a claim that holds anyway holds after an `Err`
pub on_err : {T E : Type 0} {P : Type 0} (result : Result T E) → P → OnErr result P
on_err (Ok x) holds = tt
on_err (Err e) holds = holds

-- the limits of an order, in ticks, are valid limits
pub limits_of : (o : Order) (low high : ℤ) → IsOrder o → price_of_ticks low ≡ o.low → price_of_ticks high ≡ o.high → AreLimits low high
limits_of o low high is at_low at_high =
    let least = is.terms.low_in_range in
    let most = is.terms.high_in_range in
    let span = is.terms.span_least in (
      (omega (arith, ints, least.0, at_low), omega (arith, ints, least.1, at_low)),
      (omega (arith, ints, most.0, at_high), omega (arith, ints, most.1, at_high)),
      omega (arith, ints, span, at_low, at_high),
    )

-- what is copied is what the account has there
pub held_from : (account : ℕ) (m : Market) (tickers : List (List ℕ)) (is_open : Bool) (money : ℤ) (units : List ℤ) (orders : List Order) → tickers ≡ m.tickers → (is_open ≡ true → IsAccount m.balances account) → (IsAccount m.balances account → is_open ≡ true)
    → (0 < account → money ≡ money_of m.balances account) → (0 < account → units ≡ map (units_of m.balances account) (range_with_len 0 (asset_count m.balances))) → orders ≡ own_orders account m.orders
    → IsHeld account m (record { tickers = tickers; is_open = is_open; money = money; units = λ asset. slice_index_or units asset (pos 0); orders = orders })
held_from account m tickers is_open money units orders same to back has_money has_units own = record {
  tickers = same;
  opened = opened_as account m is_open to back;
  money = has_money;
  units = units_there account (asset_count m.balances) m units has_units;
  orders = own;
}
