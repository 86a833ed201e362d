-- What is traded of an asset, by any roundings of the demands, is between its low and its high excess.
use Rattle.std.proofs.Common.{ℕ, zero, suc, ◌+◌, ◌≤◌, inl, inr, ℤ, pos, negsuc, ◌+ℤ◌, ◌*ℤ◌, ◌≤ℤ◌, List, [], ◌∷◌, map, arith}
use Rattle.std.specs.Prelude.{All, neg_ℤ, unsigned_abs, slice_index_or}
use Rattle.std.proofs.Math.Nat.{mul-le-mul_left}
use Rattle.std.proofs.lemmas.Int.{ints}
use Rattle.list_sums.specs.Sums.{int_sum_by}
use Rattle.weight_rows.specs.Rows.{weight_in, portfolio_price}
use Rattle.list_sums.proofs.SumLemmas.{int_sum_by-add}
use Rattle.demand_curve.specs.Demand.{Terms, IsWithinLimits, IsRounding, floor_rate, ceil_rate}
use Rattle.demand_curve.proofs.RoundingLaws.{roundings_enclose_demand, roundings_are_floor_and_ceil}
use Rattle.flow_orders.specs.Orders.{terms_of}
use Rattle.list_sums.proofs.SumLemmas.{int_sum_by-le}
use Rattle.flow_orders.specs.WholeUnits.{low_part, high_part}
use Rattle.flow_orders.specs.Orders.{Order}
use Rattle.flow_orders.proofs.Book.{IsConsistent, IsSettled}
use Rattle.flow_orders.specs.Excess.{steepness, spread}
use Rattle.flow_orders.specs.WholeUnits.{low_excess, high_excess}
use Rattle.flow_orders.proofs.BookSums.{int_sum_by-pos, int_sum_by-map}

-- a rounding is at least the demand rounded down, and at most the demand rounded up
pub rounding_between : (t : Terms) → IsWithinLimits t → (c : ℤ) (x : ℕ) → IsRounding t x c → (floor_rate t c ≤ x) × (x ≤ ceil_rate t c)
rounding_between t h c x rounding =
    let first = (roundings_enclose_demand t h c).floor_first in
    elim ((roundings_are_floor_and_ceil t h c x).0 rounding) [
      | inl floor ↦ (omega (arith, floor), omega (arith, floor, first))
      | inr ceil ↦ (omega (arith, ceil, first), omega (arith, ceil))
    ]

-- what an order trades of the asset is at least its low part
pub low_part-below : (w : ℤ) (t : Terms) → IsWithinLimits t → (c : ℤ) (x : ℕ) → IsRounding t x c → low_part w t c ≤ℤ (w *ℤ pos x)
low_part-below (pos n) t h c x rounding =
    omega (arith, ints, mul-le-mul_left n (rounding_between t h c x rounding).0)
low_part-below (negsuc n) t h c x rounding =
    omega (arith, ints, mul-le-mul_left (suc n) (rounding_between t h c x rounding).1)

-- what an order trades of the asset is at most its high part
pub high_part-above : (w : ℤ) (t : Terms) → IsWithinLimits t → (c : ℤ) (x : ℕ) → IsRounding t x c → (w *ℤ pos x) ≤ℤ high_part w t c
high_part-above (pos n) t h c x rounding =
    omega (arith, ints, mul-le-mul_left n (rounding_between t h c x rounding).1)
high_part-above (negsuc n) t h c x rounding =
    omega (arith, ints, mul-le-mul_left (suc n) (rounding_between t h c x rounding).0)

-- the high part is at most the absolute weight above the low part
pub parts_near : (w : ℤ) (t : Terms) → IsWithinLimits t → (c : ℤ) → high_part w t c ≤ℤ (low_part w t c +ℤ pos (unsigned_abs w))
parts_near (pos n) t h c =
    omega (arith, ints, mul-le-mul_left n (roundings_enclose_demand t h c).one_apart)
parts_near (negsuc n) t h c =
    omega (arith, ints, mul-le-mul_left (suc n) (roundings_enclose_demand t h c).one_apart)

-- the high excess is at most the rounding bound above the low one
pub high_excess-near : (orders : List Order) (prices : List ℤ) (asset : ℕ) → All IsConsistent orders → high_excess orders prices asset ≤ℤ (low_excess orders prices asset +ℤ pos (spread orders asset))
high_excess-near orders prices asset consistent =
    let low = λ (o : Order). low_part (weight_in o.row asset) (terms_of o) (portfolio_price o.row prices) in
    let high = λ (o : Order). high_part (weight_in o.row asset) (terms_of o) (portfolio_price o.row prices) in
    let weight = λ (o : Order). unsigned_abs (weight_in o.row asset) in
    let each = int_sum_by-le high (λ o. low o +ℤ pos (weight o)) orders
    (λ k d inside.
    let o : Order = slice_index_or orders k d in
    let h : IsConsistent o = consistent k d inside in
    parts_near (weight_in o.row asset) (terms_of o) h.limits (portfolio_price o.row prices)) in
    let split = int_sum_by-add low (λ o. pos (weight o)) orders in
    let weights = int_sum_by-pos weight orders in
    rw (split, weights) at each

-- the imbalance of an asset at some rates
abbrev pub residual : {X : Type 0} → (X → Order) → (X → ℕ) → List X → ℕ → ℤ
residual order rate xs asset = int_sum_by (λ x. weight_in (order x).row asset *ℤ pos (rate x)) xs

-- each rate is a rounding of its order's demand
abbrev pub AreRoundings : {X : Type 0} → (X → Order) → (X → ℕ) → List X → List ℤ → Type 0
AreRoundings order rate xs prices = All (λ x. IsRounding (terms_of (order x)) (rate x) (portfolio_price (order x).row prices)) xs

-- an imbalance is between the low and the high excess
pub record IsBetween (low residual high : ℤ) (spread : ℕ) : Type 0 where
  pub above_low : low ≤ℤ residual
  pub below_high : residual ≤ℤ high
  pub near : high ≤ℤ (low +ℤ pos spread)

module _ {X : Type 0} (order : X → Order) (rate : X → ℕ) where
  -- the orders of a list are consistent
  pub consistent_orders : (xs : List X) → All (λ x. IsConsistent (order x)) xs → All IsConsistent (map order xs)
  consistent_orders [] consistent k d inside = absurd (omega (arith, inside))
  consistent_orders (x ∷ xs) consistent zero d inside = consistent 0 x (omega arith)
  consistent_orders (x ∷ xs) consistent (suc k) d inside = consistent_orders xs (λ j e within. consistent (suc j) e (omega (arith, within))) k d (omega (arith, inside))

  -- any roundings trade between the low and the high excess, which are at most the rounding bound apart
  pub residual_between : (xs : List X) (prices : List ℤ) (asset : ℕ) → All (λ x. IsConsistent (order x)) xs → AreRoundings order rate xs prices
      → IsBetween (low_excess (map order xs) prices asset) (residual order rate xs asset) (high_excess (map order xs) prices asset) (spread (map order xs) asset)
  residual_between xs prices asset consistent roundings =
      let low = λ (o : Order). low_part (weight_in o.row asset) (terms_of o) (portfolio_price o.row prices) in
      let high = λ (o : Order). high_part (weight_in o.row asset) (terms_of o) (portfolio_price o.row prices) in
      record {
        above_low = rw (int_sum_by-map low order xs) (int_sum_by-le (λ x. low (order x)) (λ x. weight_in (order x).row asset *ℤ pos (rate x)) xs
            (λ k d inside.
            let x : X = slice_index_or xs k d in
            let h : IsConsistent (order x) = consistent k d inside in
            low_part-below (weight_in (order x).row asset) (terms_of (order x)) h.limits (portfolio_price (order x).row prices) (rate x) (roundings k d inside)));
        below_high = rw (int_sum_by-map high order xs) (int_sum_by-le (λ x. weight_in (order x).row asset *ℤ pos (rate x)) (λ x. high (order x)) xs
            (λ k d inside.
            let x : X = slice_index_or xs k d in
            let h : IsConsistent (order x) = consistent k d inside in
            high_part-above (weight_in (order x).row asset) (terms_of (order x)) h.limits (portfolio_price (order x).row prices) (rate x) (roundings k d inside)));
        near = high_excess-near (map order xs) prices asset (consistent_orders xs consistent);
      }

  -- if the asset is settled, the imbalance is at most the rounding bound and the slope bound, in absolute value
  pub residual_within_bound : (xs : List X) (prices : List ℤ) (asset : ℕ) → All (λ x. IsConsistent (order x)) xs → AreRoundings order rate xs prices → IsSettled (map order xs) prices asset
      → unsigned_abs (residual order rate xs asset) ≤ spread (map order xs) asset + steepness (map order xs) asset
  residual_within_bound xs prices asset consistent roundings settled =
      bounded (low_excess (map order xs) prices asset) (residual order rate xs asset) (high_excess (map order xs) prices asset) (spread (map order xs) asset) (steepness (map order xs) asset)
      (residual_between xs prices asset consistent roundings) settled.low settled.high
    where
      bounded : (low r high : ℤ) (spread steep : ℕ) → IsBetween low r high spread → low ≤ℤ pos steep → neg_ℤ (pos steep) ≤ℤ high → unsigned_abs r ≤ spread + steep
      bounded low r high spread steep between low_most high_least = omega (arith, ints, between.above_low, between.below_high, between.near, low_most, high_least)
