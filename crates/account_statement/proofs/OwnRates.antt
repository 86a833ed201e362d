-- The rates that are listed under the numbers of own orders are those of the own trades.
use Rattle.std.proofs.Common.{◌≡◌, ◌⊎◌, inl, inr, ℕ, zero, suc, pos, ◌<◌, true, false, if◌then◌else◌, List, [], ◌∷◌, length, map, get_or, refl, sym, ap, subst, ◌∙◌, arith}
use Rattle.std.specs.Prelude.{All, AllPairs, ◌==◌, slice_index_or}
use Rattle.std.proofs.lemmas.Bool.{cases_Bool, ne_eqb, eq-eqb}
use Rattle.std.proofs.lemmas.List.{get_or-map, length-map}
use Rattle.std.proofs.lemmas.Simd.{map-map}
use Rattle.flow_orders.specs.Orders.{Order}
use Rattle.flow_orders.specs.Outcomes.{Fill, trades_of, fill_of}
use Rattle.flow_orders.specs.Trades.{trades}
use Rattle.statement_rules.specs.Views.{own_trades}
use Rattle.statement_rules.specs.Holdings.{own_orders}
use Rattle.account_statement.specs.Private.{rate_in, fills_for, trades_for, no_fill, AreAscending, IsListed}

-- the rate that is listed under the number of a fill is the fill's
at_head : (f : Fill) (fills : List Fill) → rate_in (f ∷ fills) f.order ≡ f.rate
unfolding rate_in
at_head f fills = ap (λ b. if b then f.rate else rate_in fills f.order) (eq-eqb f.order f.order refl)

following : (f : Fill) (fills : List Fill) (number : ℕ) → f.order < number → rate_in (f ∷ fills) number ≡ rate_in fills number
unfolding rate_in
following f fills number less = ap (λ b. if b then f.rate else rate_in fills number) (ne_eqb f.order number (λ same. omega (arith, less, same)))

pub rates_found : (fills : List Fill) → AreAscending fills → All (λ (f : Fill). rate_in fills f.order ≡ f.rate) fills
rates_found [] ascending k d inside = absurd (omega (arith, inside))
rates_found (f ∷ fills) ascending zero d inside = at_head f fills
rates_found (f ∷ fills) ascending (suc k) d inside =
    following f fills (slice_index_or fills k d).order (ascending zero (suc k) d (omega arith) inside)
    ∙ rates_found fills (λ i j e less within. ascending (suc i) (suc j) e (omega (arith, less)) (omega (arith, within))) k d (omega (arith, inside))

heads : (a b : ℕ) (x y : List ℕ) → a ∷ x ≡ b ∷ y → (a ≡ b) × (x ≡ y)
heads a b x y e = (cc, cc)

-- own trades, as they are published, have the rates that are found
pub own_found : (account : ℕ) (all : List Fill) (orders : List Order) (fills : List Fill) → map (λ (f : Fill). f.order) fills ≡ map (λ (o : Order). o.number) orders
    → All (λ (f : Fill). rate_in all f.order ≡ f.rate) fills → map fill_of (own_trades account (trades_of orders fills)) ≡ fills_for all (own_orders account orders)
own_found account all [] fills same found = refl
own_found account all (o ∷ orders) [] same found = absurd cc
own_found account all (o ∷ orders) (f ∷ fills) same found =
    by (own_found account all orders fills both.1 (λ k d inside. found (suc k) d (omega (arith, inside)))) (cases_Bool (o.account == account))
  where
    both : (f.order ≡ o.number) × (map (λ (g : Fill). g.order) fills ≡ map (λ (p : Order). p.number) orders)
    both = heads f.order o.number _ _ same

    here : rate_in all o.number ≡ f.rate
    here = subst (λ n. rate_in all n ≡ f.rate) both.0 (found zero f (omega arith))

    by : map fill_of (own_trades account (trades_of orders fills)) ≡ fills_for all (own_orders account orders) → ((o.account == account) ≡ true) ⊎ ((o.account == account) ≡ false)
        → map fill_of (own_trades account (trades_of (o ∷ orders) (f ∷ fills))) ≡ fills_for all (own_orders account (o ∷ orders))
    by rest (inl one) = rw one (ap (λ r. record { order = o.number; rate = r } ∷ map fill_of (own_trades account (trades_of orders fills))) (sym here) ∙ ap (λ l. record { order = o.number; rate = rate_in all o.number } ∷ l) rest)
    by rest (inr one) = rw one rest

-- the trades of orders by the fills that are found
pub trades_found : (all : List Fill) (orders : List Order) → trades_of orders (fills_for all orders) ≡ trades_for all orders
trades_found all orders = ap (trades orders) (map-map (λ (f : Fill). f.rate) (λ (o : Order). record { order = o.number; rate = rate_in all o.number }) orders)

-- the numbers of the fills and of the orders, place by place
number_at : (orders : List Order) (fills : List Fill) (k : ℕ) (d : Fill) (e : Order) → map (λ (f : Fill). f.order) fills ≡ map (λ (o : Order). o.number) orders → k < length fills
    → (slice_index_or fills k d).order ≡ (slice_index_or orders k e).number
number_at orders fills k d e same inside =
    sym (get_or-map (λ (f : Fill). f.order) fills k d 0 inside) ∙ ap (λ l. get_or l k 0) same
    ∙ get_or-map (λ (o : Order). o.number) orders k e 0 (omega (arith, inside, as_many orders fills same))
  where
    as_many : (os : List Order) (fs : List Fill) → map (λ (f : Fill). f.order) fs ≡ map (λ (o : Order). o.number) os → length fs ≡ length os
    as_many os fs is = sym (length-map fs (λ (f : Fill). f.order)) ∙ ap length is ∙ length-map os (λ (o : Order). o.number)

pub as_many : (orders : List Order) (fills : List Fill) → map (λ (f : Fill). f.order) fills ≡ map (λ (o : Order). o.number) orders → length fills ≡ length orders
as_many orders fills is = sym (length-map fills (λ (f : Fill). f.order)) ∙ ap length is ∙ length-map orders (λ (o : Order). o.number)

no_order : Order
no_order = record { number = 0; account = 0; low = pos 0; high = pos 0; rate = 0; cap = 0; filled = 0; row = []; last = 0 }

-- the numbers of the fills ascend, as those of the orders do
pub fills_ascend : (orders : List Order) (fills : List Fill) → map (λ (f : Fill). f.order) fills ≡ map (λ (o : Order). o.number) orders
    → AllPairs (λ (o : Order) (later : Order). o.number < later.number) orders → AreAscending fills
fills_ascend orders fills same ascending i j d less inside =
    let count = as_many orders fills same in
    let low = number_at orders fills i d no_order same (omega (arith, less, inside)) in
    let high = number_at orders fills j d no_order same inside in
    let between : (slice_index_or orders i no_order).number < (slice_index_or orders j no_order).number = ascending i j no_order less (omega (arith, inside, count)) in
    omega (arith, low, high, between)

-- each order's number is listed
pub all_listed : (orders : List Order) (fills : List Fill) → map (λ (f : Fill). f.order) fills ≡ map (λ (o : Order). o.number) orders → All (λ (o : Order). IsListed fills o.number) orders
all_listed orders fills same k d inside =
    let within : k < length fills = omega (arith, inside, as_many orders fills same) in
    (k, within, number_at orders fills k no_fill d same within)
