-- How large the excess, the rounding bound and the slope bound of a book can be.
use Rattle.std.proofs.Common.{ℕ, suc, ◌*◌, ◌^◌, ◌≤◌, ℤ, pos, negsuc, List, [], ◌∷◌, length, arith}
use Rattle.std.specs.Prelude.{All, unsigned_abs, slice_index_or}
use Rattle.std.specs.List.{sum_by}
use Rattle.std.proofs.Math.Nat.{mul-le-mul}
use Rattle.std.proofs.lemmas.Int.{ints}
use Rattle.std.proofs.lemmas.List.Sums.{sum_by-cons}
use Rattle.weight_rows.specs.Rows.{weight_in, portfolio_price}
use Rattle.list_sums.proofs.SumLemmas.{unsigned_abs-int_sum_by}
use Rattle.weight_rows.proofs.RowLawProofs.{weights_are_small}
use Rattle.demand_curve.specs.Demand.{Terms, IsWithinLimits, floor_rate, ceil_rate}
use Rattle.demand_curve.proofs.RoundingLaws.{roundings_enclose_demand}
use Rattle.demand_curve.proofs.Quotients.{up_within}
use Rattle.flow_orders.specs.Orders.{terms_of}
use Rattle.flow_orders.specs.WholeUnits.{low_part, high_part}
use Rattle.flow_orders.specs.Orders.{Order}
use Rattle.flow_orders.proofs.Book.{IsConsistent, squares}
use Rattle.flow_orders.specs.Excess.{steepness, spread}
use Rattle.flow_orders.specs.WholeUnits.{low_excess, high_excess}

-- a product of a weight and a rate is at most 2^36
product_most : (n x : ℕ) → n ≤ 4096 → x ≤ 2 ^ 24 → n * x ≤ 2 ^ 36
product_most n x weight rate =
    let most : n * x ≤ 4096 * 2 ^ 24 = mul-le-mul weight rate in
    omega (arith, most)

-- an order's low part is at most 2^36, in absolute value
pub low_part-most : (w : ℤ) (t : Terms) → IsWithinLimits t → (c : ℤ) → unsigned_abs w ≤ 4096 → unsigned_abs (low_part w t c) ≤ 2 ^ 36
low_part-most (pos n) t h c small = product_most n (floor_rate t c) small (omega (arith, roundings_enclose_demand t h c, h.room_most, h.rate_most))
low_part-most (negsuc n) t h c small =
    let most = product_most (suc n) (ceil_rate t c) (omega (arith, small)) (omega (arith, roundings_enclose_demand t h c, h.room_most, h.rate_most)) in
    omega (arith, ints, most)

pub high_part-most : (w : ℤ) (t : Terms) → IsWithinLimits t → (c : ℤ) → unsigned_abs w ≤ 4096 → unsigned_abs (high_part w t c) ≤ 2 ^ 36
high_part-most (pos n) t h c small = product_most n (ceil_rate t c) small (omega (arith, roundings_enclose_demand t h c, h.room_most, h.rate_most))
high_part-most (negsuc n) t h c small =
    let most = product_most (suc n) (floor_rate t c) (omega (arith, small)) (omega (arith, roundings_enclose_demand t h c, h.room_most, h.rate_most)) in
    omega (arith, ints, most)

-- the low excess of a book is at most 2^36 for each order, in absolute value
pub low_excess-most : (orders : List Order) (prices : List ℤ) (asset : ℕ) → All IsConsistent orders → unsigned_abs (low_excess orders prices asset) ≤ length orders * 2 ^ 36
low_excess-most orders prices asset consistent =
    unsigned_abs-int_sum_by (λ (o : Order). low_part (weight_in o.row asset) (terms_of o) (portfolio_price o.row prices)) (2 ^ 36) orders
    (λ k d inside.
    let o : Order = slice_index_or orders k d in
    let h : IsConsistent o = consistent k d inside in
    low_part-most (weight_in o.row asset) (terms_of o) h.limits (portfolio_price o.row prices) (weights_are_small o.row asset h.lawful))

pub high_excess-most : (orders : List Order) (prices : List ℤ) (asset : ℕ) → All IsConsistent orders → unsigned_abs (high_excess orders prices asset) ≤ length orders * 2 ^ 36
high_excess-most orders prices asset consistent =
    unsigned_abs-int_sum_by (λ (o : Order). high_part (weight_in o.row asset) (terms_of o) (portfolio_price o.row prices)) (2 ^ 36) orders
    (λ k d inside.
    let o : Order = slice_index_or orders k d in
    let h : IsConsistent o = consistent k d inside in
    high_part-most (weight_in o.row asset) (terms_of o) h.limits (portfolio_price o.row prices) (weights_are_small o.row asset h.lawful))

-- a sum of numbers that are each at most m
module _ {X : Type 0} (f : X → ℕ) (m : ℕ) where
  pub sum_by-most : (xs : List X) → All (λ x. f x ≤ m) xs → sum_by f xs ≤ length xs * m
  sum_by-most [] small = omega arith
  sum_by-most (x ∷ xs) small =
      let head : f x ≤ m = small 0 x (omega arith) in
      omega (arith, head, sum_by-cons f x xs, sum_by-most xs (λ k d inside. small (suc k) d (omega (arith, inside))))

-- the rounding bound of an asset is at most 2^12 for each order
pub spread-most : (orders : List Order) (asset : ℕ) → All IsConsistent orders → spread orders asset ≤ length orders * 2 ^ 12
spread-most orders asset consistent =
    sum_by-most (λ (o : Order). unsigned_abs (weight_in o.row asset)) (2 ^ 12) orders
    (λ k d inside. weights_are_small (slice_index_or orders k d).row asset (consistent k d inside).lawful)

pub squares-most : (orders : List Order) (asset : ℕ) → All IsConsistent orders → squares orders asset ≤ length orders * 2 ^ 24
squares-most orders asset consistent =
    sum_by-most (λ (o : Order). unsigned_abs (weight_in o.row asset) * unsigned_abs (weight_in o.row asset)) (2 ^ 24) orders
    (λ k d inside.
    let small = weights_are_small (slice_index_or orders k d).row asset (consistent k d inside).lawful in
    mul-le-mul small small)

pub steepness-most : (orders : List Order) (asset : ℕ) → All IsConsistent orders → steepness orders asset ≤ length orders * 2 ^ 16
unfolding steepness
steepness-most orders asset consistent =
    up_within (squares orders asset) 256 (length orders * 2 ^ 16) (omega arith) (omega (arith, squares-most orders asset consistent))
