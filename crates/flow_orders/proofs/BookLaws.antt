-- How the excess of an asset moves with its price.
use Rattle.std.proofs.Common.{◌≡◌, ℕ, suc, ◌*◌, ◌≤◌, ◌<◌, ℤ, pos, negsuc, ◌+ℤ◌, ◌-ℤ◌, ◌*ℤ◌, ◌≤ℤ◌, List, length, set, ap, sym, ◌∙◌, arith}
use Rattle.std.specs.Prelude.{All, slice_index_or}
use Rattle.std.proofs.Math.Nat.{mul-le-mul_left}
use Rattle.std.proofs.Math.IntN.{pos-*ℤ-pos}
use Rattle.std.proofs.lemmas.Int.{ints}
use Rattle.weight_rows.specs.declared.entries.Entry.{Entry}
use Rattle.weight_rows.specs.Rows.{IsWeightVector, weight_in, portfolio_price}
use Rattle.list_sums.specs.Sums.{int_sum_by}
use Rattle.list_sums.proofs.SumLemmas.{int_sum_by-add}
use Rattle.demand_curve.specs.Demand.{Terms, IsWithinLimits}
use Rattle.demand_curve.specs.Numbers.{distance}
use Rattle.demand_curve.proofs.Parts.{parts_never_rise}
use Rattle.flow_orders.specs.Orders.{terms_of}
use Rattle.list_sums.proofs.SumLemmas.{int_sum_by-le, int_sum_by-scale}
use Rattle.flow_orders.specs.Excess.{low_part_in, high_part_in}
use Rattle.flow_orders.specs.WholeUnits.{low_part, high_part}
use Rattle.flow_orders.proofs.Excess.{part_step, low_part-whole, high_part-whole}
use Rattle.flow_orders.specs.Orders.{Order}
use Rattle.flow_orders.proofs.Book.{IsConsistent, squares}
use Rattle.flow_orders.specs.Excess.{low_excess_in, high_excess_in, steepness}
use Rattle.flow_orders.specs.WholeUnits.{low_excess, high_excess}
use Rattle.flow_orders.proofs.BookSums.{squares-le, squares_are, price_follows, price_one_more, from_distance}

-- ---- whole units and parts of them

-- the low excess in parts is at least that in whole units
pub low_excess-whole : (parts : ℕ) (orders : List Order) (prices : List ℤ) (asset : ℕ) → All IsConsistent orders → (pos parts *ℤ low_excess orders prices asset) ≤ℤ low_excess_in parts orders prices asset
low_excess-whole parts orders prices asset consistent =
    let low = λ (o : Order). low_part (weight_in o.row asset) (terms_of o) (portfolio_price o.row prices) in
    let low_in = λ (o : Order). low_part_in parts (weight_in o.row asset) (terms_of o) (portfolio_price o.row prices) in
    rw (int_sum_by-scale low (pos parts) orders) (int_sum_by-le (λ o. pos parts *ℤ low o) low_in orders
    (λ k d inside.
    let o : Order = slice_index_or orders k d in
    let h : IsConsistent o = consistent k d inside in
    low_part-whole parts (weight_in o.row asset) (terms_of o) h.limits (portfolio_price o.row prices)))

-- the high excess in parts is at most that in whole units
pub high_excess-whole : (parts : ℕ) (orders : List Order) (prices : List ℤ) (asset : ℕ) → All IsConsistent orders → high_excess_in parts orders prices asset ≤ℤ (pos parts *ℤ high_excess orders prices asset)
high_excess-whole parts orders prices asset consistent =
    let high = λ (o : Order). high_part (weight_in o.row asset) (terms_of o) (portfolio_price o.row prices) in
    let high_in = λ (o : Order). high_part_in parts (weight_in o.row asset) (terms_of o) (portfolio_price o.row prices) in
    rw (int_sum_by-scale high (pos parts) orders) (int_sum_by-le high_in (λ o. pos parts *ℤ high o) orders
    (λ k d inside.
    let o : Order = slice_index_or orders k d in
    let h : IsConsistent o = consistent k d inside in
    high_part-whole parts (weight_in o.row asset) (terms_of o) h.limits (portfolio_price o.row prices)))

-- ---- one grain more

-- if a price rises by one grain, the high excess in parts is then at least the low excess before, less the slope bound in parts
pub low_above_next_high : (parts : ℕ) (orders : List Order) (prices : List ℤ) (asset : ℕ) (x : ℤ) → All IsConsistent orders → asset < length prices
    → low_excess_in parts orders (set prices asset x) asset ≤ℤ (high_excess_in parts orders (set prices asset (x +ℤ pos 1)) asset +ℤ pos (parts * steepness orders asset))
low_above_next_high parts orders prices asset x consistent within =
    let now = set prices asset x in
    let next = set prices asset (x +ℤ pos 1) in
    let low = λ (o : Order). low_part_in parts (weight_in o.row asset) (terms_of o) (portfolio_price o.row now) in
    let high = λ (o : Order). high_part_in parts (weight_in o.row asset) (terms_of o) (portfolio_price o.row next) in
    let square = λ (o : Order). weight_in o.row asset *ℤ weight_in o.row asset in
    let each = int_sum_by-le (λ o. pos 256 *ℤ low o) (λ o. pos 256 *ℤ high o +ℤ pos parts *ℤ square o) orders
    (λ k d inside.
    let o : Order = slice_index_or orders k d in
    let h : IsConsistent o = consistent k d inside in
    rw (price_one_more o.row prices asset x h.lawful within) (part_step parts (weight_in o.row asset) (terms_of o) h.limits (portfolio_price o.row now))) in
    let split = int_sum_by-add (λ o. pos 256 *ℤ high o) (λ o. pos parts *ℤ square o) orders in
    let all_squares : int_sum_by (λ o. pos parts *ℤ square o) orders ≡ pos parts *ℤ pos (squares orders asset) = sym (int_sum_by-scale square (pos parts) orders) ∙ ap (λ y. pos parts *ℤ y) (squares_are orders asset) in
    divided (low_excess_in parts orders now asset) (high_excess_in parts orders next asset) (squares orders asset) (steepness orders asset)
    (rw (split, ← int_sum_by-scale low (pos 256) orders, ← int_sum_by-scale high (pos 256) orders, all_squares) at each)
    (squares-le orders asset)
  where
    divided : (low high : ℤ) (square steep : ℕ) → (pos 256 *ℤ low) ≤ℤ (pos 256 *ℤ high +ℤ pos parts *ℤ pos square) → square ≤ 256 * steep → low ≤ℤ (high +ℤ pos (parts * steep))
    divided low high square steep h most = omega (arith, ints, h, mul-le-mul_left parts most)

-- ---- the excess never rises with the price

-- an order's part never rises as the price moves by its weight
pub low_part-falls : (parts : ℕ) (w : ℤ) (t : Terms) → IsWithinLimits t → (c : ℤ) (d : ℕ) → low_part_in parts w t (c +ℤ w *ℤ pos d) ≤ℤ low_part_in parts w t c
low_part-falls parts (pos n) t h c d =
    let product = pos-*ℤ-pos n d in
    let more : c ≤ℤ (c +ℤ pos n *ℤ pos d) = omega (arith, ints, product) in
    omega (arith, ints, mul-le-mul_left n (parts_never_rise parts t h c (c +ℤ pos n *ℤ pos d) more).0)
low_part-falls parts (negsuc n) t h c d =
    let less : (c +ℤ negsuc n *ℤ pos d) ≤ℤ c = omega (arith, ints) in
    omega (arith, ints, mul-le-mul_left (suc n) (parts_never_rise parts t h (c +ℤ negsuc n *ℤ pos d) c less).1)

pub high_part-falls : (parts : ℕ) (w : ℤ) (t : Terms) → IsWithinLimits t → (c : ℤ) (d : ℕ) → high_part_in parts w t (c +ℤ w *ℤ pos d) ≤ℤ high_part_in parts w t c
high_part-falls parts (pos n) t h c d =
    let product = pos-*ℤ-pos n d in
    let more : c ≤ℤ (c +ℤ pos n *ℤ pos d) = omega (arith, ints, product) in
    omega (arith, ints, mul-le-mul_left n (parts_never_rise parts t h c (c +ℤ pos n *ℤ pos d) more).1)
high_part-falls parts (negsuc n) t h c d =
    let less : (c +ℤ negsuc n *ℤ pos d) ≤ℤ c = omega (arith, ints) in
    omega (arith, ints, mul-le-mul_left (suc n) (parts_never_rise parts t h (c +ℤ negsuc n *ℤ pos d) c less).0)

-- the price of a portfolio after one asset's price rises from x to y
price_risen : (row : List Entry) (prices : List ℤ) (asset : ℕ) (x y : ℤ) → IsWeightVector row → asset < length prices → x ≤ℤ y → portfolio_price row (set prices asset y) ≡ portfolio_price row (set prices asset x) +ℤ weight_in row asset *ℤ pos (distance y x)
price_risen row prices asset x y lawful within rise =
    let gap : y -ℤ x ≡ pos (distance y x) = omega (arith, ints, from_distance x y rise) in
    rw gap at (price_follows row prices asset x y lawful within)

-- the low excess never rises as the asset's price rises
pub low_excess-falls : (parts : ℕ) (orders : List Order) (prices : List ℤ) (asset : ℕ) (x y : ℤ) → All IsConsistent orders → asset < length prices → x ≤ℤ y
    → low_excess_in parts orders (set prices asset y) asset ≤ℤ low_excess_in parts orders (set prices asset x) asset
low_excess-falls parts orders prices asset x y consistent within rise =
    int_sum_by-le (λ o. low_part_in parts (weight_in o.row asset) (terms_of o) (portfolio_price o.row (set prices asset y))) (λ o. low_part_in parts (weight_in o.row asset) (terms_of o) (portfolio_price o.row (set prices asset x))) orders
    (λ k d inside.
    let o : Order = slice_index_or orders k d in
    let h : IsConsistent o = consistent k d inside in
    rw (price_risen o.row prices asset x y h.lawful within rise) (low_part-falls parts (weight_in o.row asset) (terms_of o) h.limits (portfolio_price o.row (set prices asset x)) (distance y x)))

-- the high excess never rises as the asset's price rises
pub high_excess-falls : (parts : ℕ) (orders : List Order) (prices : List ℤ) (asset : ℕ) (x y : ℤ) → All IsConsistent orders → asset < length prices → x ≤ℤ y
    → high_excess_in parts orders (set prices asset y) asset ≤ℤ high_excess_in parts orders (set prices asset x) asset
high_excess-falls parts orders prices asset x y consistent within rise =
    int_sum_by-le (λ o. high_part_in parts (weight_in o.row asset) (terms_of o) (portfolio_price o.row (set prices asset y))) (λ o. high_part_in parts (weight_in o.row asset) (terms_of o) (portfolio_price o.row (set prices asset x))) orders
    (λ k d inside.
    let o : Order = slice_index_or orders k d in
    let h : IsConsistent o = consistent k d inside in
    rw (price_risen o.row prices asset x y h.lawful within rise) (high_part-falls parts (weight_in o.row asset) (terms_of o) h.limits (portfolio_price o.row (set prices asset x)) (distance y x)))
