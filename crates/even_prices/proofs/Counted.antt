-- Which orders count for the bound of an imbalance: all but those whose demand is the same whole number at this price and a grain either way.
use Rattle.std.proofs.Common.{◌≡◌, ◌⊎◌, ⊎_elim, ℕ, ◌*◌, ◌≤◌, ◌<◌, ℤ, pos, negsuc, ◌+ℤ◌, ◌-ℤ◌, ◌*ℤ◌, ◌≤ℤ◌, ◌<ℤ◌, Bool, true, false, cond, List, [], ◌∷◌, length, refl, ap, sym, ◌∙◌, arith}
use Rattle.std.specs.Prelude.{All, neg_ℤ, unsigned_abs, slice_index_or}
use Rattle.std.specs.List.{sum_by, filter}
use Rattle.std.proofs.lemmas.Int.{ints}
use Rattle.std.proofs.lemmas.Bool.{cases_Bool}
use Rattle.std.proofs.lemmas.List.Sums.{sum_by-cons}
use Rattle.list_sums.specs.Sums.{int_sum_by}
use Rattle.list_sums.proofs.SumLemmas.{int_sum_by-add, int_sum_by-le}
use Rattle.weight_rows.specs.Rows.{IsWeightVector, weight_in, price_of, portfolio_price}
use Rattle.weight_rows.proofs.RowLawProofs.{price_follows_one_price}
use Rattle.demand_curve.specs.Demand.{Terms, IsWithinLimits, span, scaled_demand}
use Rattle.flow_orders.specs.Orders.{Order, terms_of}
use Rattle.flow_orders.specs.Excess.{low_part_in, high_part_in, low_excess_in, high_excess_in, spread, steepness}
use Rattle.flow_orders.specs.WholeUnits.{low_part, high_part, low_excess, high_excess}
use Rattle.flow_orders.specs.Moves.{risen, fallen}
use Rattle.flow_orders.proofs.Book.{IsConsistent, squares}
use Rattle.flow_orders.proofs.BookSums.{int_sum_by-pos, square_is, squares-le}
use Rattle.flow_orders.proofs.BookLaws.{low_excess-whole, high_excess-whole}
use Rattle.flow_orders.proofs.Excess.{part_step}
use Rattle.flow_orders.proofs.Residuals.{parts_near}
use Rattle.even_prices.specs.Even.{even_parts, IsEven}
use Rattle.even_prices.proofs.Wholes.{part_of_whole, unit_of_whole}

-- a demand is x units at a price of the portfolio, and a grain of an asset of weight w either way
pub record StaysWhole (w : ℤ) (t : Terms) (c : ℤ) (x : ℕ) : Type 0 where
  pub here : scaled_demand t c ≡ x * span t
  pub above : scaled_demand t (c +ℤ w) ≡ x * span t
  pub below : scaled_demand t (c -ℤ w) ≡ x * span t

-- an order has no weight of the asset, or its demand stays a whole number
abbrev pub IsStill : ℤ → Terms → ℤ → Type 0
IsStill w t c = (w ≡ pos 0) ⊎ ((x : ℕ) × StaysWhole w t c x)

-- ---- one order

-- the low part in parts is at most the high part a grain higher
still_rises : (w : ℤ) (t : Terms) → IsWithinLimits t → (c : ℤ) → IsStill w t c → low_part_in even_parts w t c ≤ℤ high_part_in even_parts w t (c +ℤ w)
still_rises w t h c still =
    ⊎_elim
    (λ none. rw none (omega (arith, ints)))
    (λ stays. rw ((part_of_whole even_parts w t h c stays.0 stays.1.here).0, (part_of_whole even_parts w t h (c +ℤ w) stays.0 stays.1.above).1) (omega (arith, ints)))
    still

-- the low part in parts a grain lower is at most the high part
still_falls : (w : ℤ) (t : Terms) → IsWithinLimits t → (c : ℤ) → IsStill w t c → low_part_in even_parts w t (c -ℤ w) ≤ℤ high_part_in even_parts w t c
still_falls w t h c still =
    ⊎_elim
    (λ none. rw none (omega (arith, ints)))
    (λ stays. rw ((part_of_whole even_parts w t h (c -ℤ w) stays.0 stays.1.below).0, (part_of_whole even_parts w t h c stays.0 stays.1.here).1) (omega (arith, ints)))
    still

-- the high part in units is at most the low part
still_near : (w : ℤ) (t : Terms) → IsWithinLimits t → (c : ℤ) → IsStill w t c → high_part w t c ≤ℤ low_part w t c
still_near w t h c still =
    ⊎_elim
    (λ none. rw none (omega (arith, ints)))
    (λ stays. let both = unit_of_whole w t h c stays.0 stays.1.here in rw (both.0, both.1) (omega (arith, ints)))
    still

-- what an order counts for, if it counts
abbrev counted : Bool → ℕ → ℕ
counted true n = n
counted false n = 0

module _ (w : ℤ) (t : Terms) (h : IsWithinLimits t) (c : ℤ) where
  near_counted : (b : Bool) → (b ≡ false → IsStill w t c) → high_part w t c ≤ℤ (low_part w t c +ℤ pos (counted b (unsigned_abs w)))
  near_counted true still = parts_near w t h c
  near_counted false still = omega (arith, ints, still_near w t h c (still refl))

  rises_counted : (b : Bool) → (b ≡ false → IsStill w t c) → low_part_in even_parts w t c ≤ℤ (high_part_in even_parts w t (c +ℤ w) +ℤ pos (counted b (unsigned_abs w * unsigned_abs w)))
  rises_counted true still =
      let step = part_step even_parts w t h c in
      omega (arith, ints, step, square_is w)
  rises_counted false still = omega (arith, ints, still_rises w t h c (still refl))

  falls_counted : (b : Bool) → (b ≡ false → IsStill w t c) → low_part_in even_parts w t (c -ℤ w) ≤ℤ (high_part_in even_parts w t c +ℤ pos (counted b (unsigned_abs w * unsigned_abs w)))
  falls_counted true still =
      let back : c -ℤ w +ℤ w ≡ c = omega (arith, ints) in
      let step = rw back at (part_step even_parts w t h (c -ℤ w)) in
      omega (arith, ints, step, square_is w)
  falls_counted false still = omega (arith, ints, still_falls w t h c (still refl))

-- ---- all orders

-- a sum over those that count
sum_by-counted : {X : Type 0} (f : X → ℕ) (counts : X → Bool) (xs : List X) → sum_by f (filter counts xs) ≡ sum_by (λ x. counted (counts x) (f x)) xs
sum_by-counted f counts [] = refl
sum_by-counted f counts (x ∷ xs) =
    let rest = sum_by-counted f counts xs in
    let all = sum_by-cons (λ y. counted (counts y) (f y)) x xs in
    ⊎_elim
    (λ yes.
    let kept = ap (λ b. sum_by f (cond b (x ∷ filter counts xs) (filter counts xs))) yes in
    omega (arith, rest, all, kept, sum_by-cons f x (filter counts xs), ap (λ b. counted b (f x)) yes))
    (λ no.
    let left = ap (λ b. sum_by f (cond b (x ∷ filter counts xs) (filter counts xs))) no in
    omega (arith, rest, all, left, ap (λ b. counted b (f x)) no))
    (cases_Bool (counts x))

-- the price of a portfolio once an asset's price is a grain higher
pub price_risen : (o : Order) (prices : List ℤ) (asset : ℕ) → IsWeightVector o.row → asset < length prices → portfolio_price o.row (risen prices asset 1) ≡ portfolio_price o.row prices +ℤ weight_in o.row asset
price_risen o prices asset lawful within =
    let p = price_of prices asset in
    let one : p +ℤ pos 1 -ℤ p ≡ pos 1 = omega (arith, ints) in
    let follows = rw one at (price_follows_one_price o.row prices asset (p +ℤ pos 1) lawful within) in
    omega (arith, ints, follows)

-- the price of a portfolio once an asset's price is a grain lower
pub price_fallen : (o : Order) (prices : List ℤ) (asset : ℕ) → IsWeightVector o.row → asset < length prices → portfolio_price o.row (fallen prices asset 1) ≡ portfolio_price o.row prices -ℤ weight_in o.row asset
price_fallen o prices asset lawful within =
    let p = price_of prices asset in
    let one : p -ℤ pos 1 -ℤ p ≡ negsuc 0 = omega (arith, ints) in
    let follows = rw one at (price_follows_one_price o.row prices asset (p -ℤ pos 1) lawful within) in
    omega (arith, ints, follows)

-- every order of a book that doesn't count is still
abbrev pub LeavesStill : (Order → Bool) → List Order → List ℤ → ℕ → Type 0
LeavesStill counts orders prices asset =
    All (λ (o : Order). counts o ≡ false → IsStill (weight_in o.row asset) (terms_of o) (portfolio_price o.row prices)) orders

module _ (counts : Order → Bool) (orders : List Order) (prices : List ℤ) (asset : ℕ) (consistent : All IsConsistent orders) (within : asset < length prices) (still : LeavesStill counts orders prices asset) where
  weighed : Order → ℕ
  weighed o = counted (counts o) (unsigned_abs (weight_in o.row asset))

  squared : Order → ℕ
  squared o = counted (counts o) (unsigned_abs (weight_in o.row asset) * unsigned_abs (weight_in o.row asset))

  spread_is : pos (spread (filter counts orders) asset) ≡ int_sum_by (λ o. pos (weighed o)) orders
  unfolding weighed
  spread_is = ap pos (sum_by-counted (λ (o : Order). unsigned_abs (weight_in o.row asset)) counts orders) ∙ sym (int_sum_by-pos weighed orders)

  squares_is : pos (squares (filter counts orders) asset) ≡ int_sum_by (λ o. pos (squared o)) orders
  unfolding squared
  squares_is = ap pos (sum_by-counted (λ (o : Order). unsigned_abs (weight_in o.row asset) * unsigned_abs (weight_in o.row asset)) counts orders) ∙ sym (int_sum_by-pos squared orders)

  -- the high excess in units is at most the low one and the absolute weights of the orders that count
  pub near : high_excess orders prices asset ≤ℤ (low_excess orders prices asset +ℤ pos (spread (filter counts orders) asset))
  unfolding weighed
  near =
      let low = λ (o : Order). low_part (weight_in o.row asset) (terms_of o) (portfolio_price o.row prices) in
      let high = λ (o : Order). high_part (weight_in o.row asset) (terms_of o) (portfolio_price o.row prices) in
      let each = int_sum_by-le high (λ o. low o +ℤ pos (weighed o)) orders
      (λ k d inside.
      let o : Order = slice_index_or orders k d in
      let h : IsConsistent o = consistent k d inside in
      near_counted (weight_in o.row asset) (terms_of o) h.limits (portfolio_price o.row prices) (counts o) (still k d inside)) in
      rw (int_sum_by-add low (λ o. pos (weighed o)) orders, ← spread_is) at each

  -- the low excess in parts is at most the high one a grain higher and the squared weights of the orders that count
  pub rises : low_excess_in even_parts orders prices asset ≤ℤ (high_excess_in even_parts orders (risen prices asset 1) asset +ℤ pos (squares (filter counts orders) asset))
  unfolding squared
  rises =
      let low = λ (o : Order). low_part_in even_parts (weight_in o.row asset) (terms_of o) (portfolio_price o.row prices) in
      let high = λ (o : Order). high_part_in even_parts (weight_in o.row asset) (terms_of o) (portfolio_price o.row (risen prices asset 1)) in
      let each = int_sum_by-le low (λ o. high o +ℤ pos (squared o)) orders
      (λ k d inside.
      let o : Order = slice_index_or orders k d in
      let h : IsConsistent o = consistent k d inside in
      rw (price_risen o prices asset h.lawful within) (rises_counted (weight_in o.row asset) (terms_of o) h.limits (portfolio_price o.row prices) (counts o) (still k d inside))) in
      rw (int_sum_by-add high (λ o. pos (squared o)) orders, ← squares_is) at each

  -- the low excess in parts a grain lower is at most the high one and the squared weights of the orders that count
  pub falls : low_excess_in even_parts orders (fallen prices asset 1) asset ≤ℤ (high_excess_in even_parts orders prices asset +ℤ pos (squares (filter counts orders) asset))
  unfolding squared
  falls =
      let low = λ (o : Order). low_part_in even_parts (weight_in o.row asset) (terms_of o) (portfolio_price o.row (fallen prices asset 1)) in
      let high = λ (o : Order). high_part_in even_parts (weight_in o.row asset) (terms_of o) (portfolio_price o.row prices) in
      let each = int_sum_by-le low (λ o. high o +ℤ pos (squared o)) orders
      (λ k d inside.
      let o : Order = slice_index_or orders k d in
      let h : IsConsistent o = consistent k d inside in
      rw (price_fallen o prices asset h.lawful within) (falls_counted (weight_in o.row asset) (terms_of o) h.limits (portfolio_price o.row prices) (counts o) (still k d inside))) in
      rw (int_sum_by-add high (λ o. pos (squared o)) orders, ← squares_is) at each

  -- at an even asset the low excess in units is at most the slope bound of the orders that count, and the high one at least minus that
  pub low_most : IsEven orders prices asset → low_excess orders prices asset ≤ℤ pos (steepness (filter counts orders) asset)
  low_most even =
      ends (low_excess orders prices asset) (low_excess_in even_parts orders prices asset) (high_excess_in even_parts orders (risen prices asset 1) asset) (squares (filter counts orders) asset) (steepness (filter counts orders) asset)
      (low_excess-whole even_parts orders prices asset consistent) rises (squares-le (filter counts orders) asset) even.not_too_low
    where
      ends : (low low_in next : ℤ) (squares steep : ℕ) → (pos even_parts *ℤ low) ≤ℤ low_in → low_in ≤ℤ (next +ℤ pos squares) → squares ≤ 256 * steep → ((low_in ≤ℤ pos 0) ⊎ (next <ℤ pos 0)) → low ≤ℤ pos steep
      ends low low_in next squares steep whole near most cases =
          ⊎_elim (λ none. omega (arith, ints, whole, none)) (λ turns. omega (arith, ints, whole, near, most, turns)) cases

  pub high_least : IsEven orders prices asset → neg_ℤ (pos (steepness (filter counts orders) asset)) ≤ℤ high_excess orders prices asset
  high_least even =
      ends (high_excess orders prices asset) (high_excess_in even_parts orders prices asset) (low_excess_in even_parts orders (fallen prices asset 1) asset) (squares (filter counts orders) asset) (steepness (filter counts orders) asset)
      (high_excess-whole even_parts orders prices asset consistent) falls (squares-le (filter counts orders) asset) even.not_too_high
    where
      ends : (high high_in next : ℤ) (squares steep : ℕ) → high_in ≤ℤ (pos even_parts *ℤ high) → next ≤ℤ (high_in +ℤ pos squares) → squares ≤ 256 * steep → ((pos 0 ≤ℤ high_in) ⊎ (pos 0 <ℤ next)) → neg_ℤ (pos steep) ≤ℤ high
      ends high high_in next squares steep whole near most cases =
          ⊎_elim (λ none. omega (arith, ints, whole, none)) (λ turns. omega (arith, ints, whole, near, most, turns)) cases
