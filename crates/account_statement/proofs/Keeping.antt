-- Own orders stay own.
use Rattle.std.proofs.Common.{◌≡◌, ◌≢◌, ◌⊎◌, inl, inr, ℕ, zero, suc, ◌<◌, Bool, true, false, if◌then◌else◌, ℤ, pos, ◌+ℤ◌, List, [], ◌∷◌, ◌++◌, length, map, get_or, Some, refl, sym, ap, subst, ◌∙◌, arith}
use Rattle.std.specs.Prelude.{All, ◌==◌}
use Rattle.std.specs.List.{filter, range_with_len, sum_by}
use Rattle.std.proofs.Common.{set}
use Rattle.std.proofs.lemmas.Bool.{eq-eqb}
use Rattle.std.proofs.lemmas.Bool.Decides.{eqb_tells}
use Rattle.std.proofs.lemmas.List.{get_or_past, get_or-set_same, get_or-set_other}
use Rattle.std.proofs.lemmas.List.Elements.{All-append, All-filter, All-map}
use Rattle.std.proofs.lemmas.List.FromFn.{get_or-map-range_with_len}
use Rattle.std.proofs.lemmas.List.Sums.{sum_by-cons}
use Rattle.flow_orders.specs.Orders.{Order, own_sum}
use Rattle.flow_orders.specs.Residuals.{residual_in, HasEach}
use Rattle.flow_orders.specs.Trades.{trades, after_fill, staying}
use Rattle.flow_orders.proofs.TradeFacts.{All-trades, is_live}
use Rattle.order_book.specs.Book.{Book, without}
use Rattle.statement_rules.specs.Views.{Adds}
use Rattle.statement_rules.specs.Holdings.{changed, after}
use Rattle.account_statement.specs.Telling.{Statement, holding_of}
use Rattle.account_statement.specs.Private.{AreAlike}

-- all orders are one account's
abbrev pub AreOwn : ℕ → List Order → Type 0
AreOwn account orders = All (λ (o : Order). o.account ≡ account) orders

pub own_filter : (account : ℕ) (p : Order → Bool) (orders new : List Order) → new ≡ filter p orders → AreOwn account orders → AreOwn account new
own_filter account p orders new is own = subst (AreOwn account) (sym is) (All-filter p (λ (o : Order). o.account ≡ account) orders own)

pub own_staying : (account : ℕ) (orders : List Order) (rates : List ℕ) (new : List Order) → new ≡ staying (trades orders rates) → AreOwn account orders → AreOwn account new
own_staying account orders rates new is own =
    own_filter account is_live (map after_fill (trades orders rates)) new is
    (All-map (λ (o : Order). o.account ≡ account) after_fill (trades orders rates) (All-trades (λ (o : Order). o.account ≡ account) orders rates own))

-- what an account's own orders need is what all orders of its list need
pub own_need : (need : Order → ℕ) (account : ℕ) (orders : List Order) → AreOwn account orders → own_sum (λ (o : Order). o.account) account (λ o. pos (need o)) orders ≡ pos (sum_by need orders)
own_need need account [] own = refl
own_need need account (o ∷ orders) own =
    let here : (o.account == account) ≡ true = eq-eqb o.account account (own zero o (omega arith)) in
    let rest = own_need need account orders (λ k d inside. own (suc k) d (omega (arith, inside))) in
    rw here (ap (λ z. pos (need o) +ℤ z) rest ∙ ap pos (sym (sum_by-cons need o orders)))

-- ---- balances of units

-- a balance of 0 for one more asset changes no balance
same_default : (units : List ℤ) (asset : ℕ) → get_or (units ++ pos 0 ∷ []) asset (pos 0) ≡ get_or units asset (pos 0)
same_default [] zero = refl
same_default [] (suc k) = refl
same_default (u ∷ units) zero = refl
same_default (u ∷ units) (suc k) = same_default units k

pub units_added : (units : List ℤ) (n : ℕ) → length units ≡ n → (asset : ℕ) → get_or (units ++ pos 0 ∷ []) asset (pos 0) ≡ (if asset == n then pos 0 else get_or units asset (pos 0))
units_added units n count asset = by (eqb_tells asset n)
  where
    by : (((asset == n) ≡ true) × (asset ≡ n)) ⊎ (((asset == n) ≡ false) × (asset ≢ n)) → get_or (units ++ pos 0 ∷ []) asset (pos 0) ≡ (if asset == n then pos 0 else get_or units asset (pos 0))
    by (inl same) = rw same.0 (same_default units asset ∙ get_or_past units asset (pos 0) (omega (arith, same.1, count)))
    by (inr other) = rw other.0 (same_default units asset)

-- the units of one asset are replaced
pub units_set : (units : List ℤ) (k n : ℕ) (amount v : ℤ) → k ≡ n → n < length units → v ≡ get_or units n (pos 0) +ℤ amount
    → (asset : ℕ) → get_or (set units k v) asset (pos 0) ≡ (if asset == n then get_or units asset (pos 0) +ℤ amount else get_or units asset (pos 0))
units_set units k n amount v place inside is asset = by (eqb_tells asset n)
  where
    by : (((asset == n) ≡ true) × (asset ≡ n)) ⊎ (((asset == n) ≡ false) × (asset ≢ n)) → get_or (set units k v) asset (pos 0) ≡ (if asset == n then get_or units asset (pos 0) +ℤ amount else get_or units asset (pos 0))
    by (inl same) =
        rw same.0 (ap (λ i. get_or (set units k v) i (pos 0)) (same.1 ∙ sym place) ∙ get_or-set_same units k v (pos 0) (omega (arith, inside, place)) ∙ is ∙ ap (λ i. get_or units i (pos 0) +ℤ amount) (sym same.1))
    by (inr other) = rw other.0 (get_or-set_other units k asset v (pos 0) (λ e. other.1 (e ∙ place)))

-- what the batch brought is added
pub units_brought : (n : ℕ) (units brought new : List ℤ) (f : ℕ → ℤ) → length units ≡ n → brought ≡ map f (range_with_len 0 n)
    → HasEach (length units) (λ asset. residual_in units asset +ℤ residual_in brought asset) new → (asset : ℕ) → asset < n → get_or new asset (pos 0) ≡ get_or units asset (pos 0) +ℤ f asset
units_brought n units brought new f count is has asset inside =
    has.each asset (omega (arith, inside, count))
    ∙ ap (λ z. get_or units asset (pos 0) +ℤ z) (ap (λ l. get_or l asset (pos 0)) is ∙ get_or-map-range_with_len f 0 n asset asset (pos 0) inside (omega arith))

pub own_more : (account : ℕ) (orders new : List Order) (o : Order) → new ≡ orders ++ o ∷ [] → o.account ≡ account → AreOwn account orders → AreOwn account new
own_more account orders new o is mine own =
    subst (AreOwn account) (sym is) (All-append (λ (x : Order). x.account ≡ account) orders (o ∷ []) own (λ k d inside. one k d inside))
  where
    one : AreOwn account (o ∷ [])
    one zero d inside = mine
    one (suc k) d inside = absurd (omega (arith, inside))

pub own_cancel : (account number : ℕ) (there : Bool) (old new : Book) → (there ≡ false → new ≡ old) → (there ≡ true → new.orders ≡ without old.orders number) → AreOwn account old.orders → AreOwn account new.orders
own_cancel account number true old new stays orders own = own_filter account _ old.orders new.orders (orders refl) own
own_cancel account number false old new stays orders own = subst (λ (b : Book). AreOwn account b.orders) (sym (stays refl)) own

-- an asset was added
pub alike_added : (s new : Statement) (ticker : List ℕ) → new.tickers ≡ s.tickers ++ ticker ∷ [] → new.is_open ≡ s.is_open → new.money ≡ s.money
    → new.units ≡ s.units ++ pos 0 ∷ [] → new.orders ≡ s.orders → length s.units ≡ length s.tickers → AreAlike (holding_of new) (after (holding_of s) (Adds ticker))
alike_added s new ticker tickers is_open money units orders count = record {
  tickers = tickers;
  is_open = is_open;
  money = money;
  units = λ asset inside. ap (λ l. get_or l asset (pos 0)) units ∙ units_added s.units (length s.tickers) count asset;
  orders = orders;
}

-- the units of an asset changed
pub alike_units : (s new : Statement) (place asset : ℕ) (amount v : ℤ) → new.tickers ≡ s.tickers → new.is_open ≡ s.is_open → new.money ≡ s.money → new.units ≡ set s.units place v → new.orders ≡ s.orders
    → place ≡ asset → asset < length s.units → v ≡ get_or s.units asset (pos 0) +ℤ amount
    → AreAlike (holding_of new) (changed (holding_of s) (Some asset) amount)
alike_units s new place asset amount v tickers is_open money units orders same inside is = record {
  tickers = tickers;
  is_open = is_open;
  money = money;
  units = λ k within. ap (λ l. get_or l k (pos 0)) units ∙ units_set s.units place asset amount v same inside is k;
  orders = orders;
}
