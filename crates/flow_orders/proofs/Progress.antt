-- The exact dual value of a book and its true excess, in parts of 1/N, and how a move of one asset's price lowers the dual.
use Rattle.std.proofs.Common.{◌≡◌, ℕ, zero, suc, ◌+◌, ◌*◌, ◌≤◌, ◌<◌, ℤ, pos, negsuc, ◌+ℤ◌, ◌-ℤ◌, ◌*ℤ◌, ◌≤ℤ◌, ◌<ℤ◌, List, length, set, ap, sym, ◌∙◌, arith}
use Rattle.std.specs.Prelude.{All, neg_ℤ, slice_index_or}
use Rattle.std.specs.List.{sum_by}
use Rattle.std.proofs.Math.Nat.{mul-le-mul_left}
use Rattle.std.proofs.Math.IntN.{*ℤ_comm}
use Rattle.std.proofs.lemmas.Int.{ints}
use borrow.Author.Differences.{up, down, product_is}
use Rattle.list_sums.specs.Sums.{int_sum_by}
use Rattle.weight_rows.specs.Rows.{weight_in, price_of, portfolio_price}
use Rattle.list_sums.proofs.SumLemmas.{int_sum_by-add, int_sum_by-same_all}
use Rattle.demand_curve.specs.Demand.{Terms, IsWithinLimits, span, scaled_demand, floor_rate, ceil_rate, scaled_dual, dual_floor}
use Rattle.demand_curve.proofs.RoundingLaws.{roundings_enclose_demand}
use Rattle.flow_orders.specs.Orders.{terms_of}
use Rattle.list_sums.proofs.SumLemmas.{int_sum_by-le, int_sum_by-scale}
use Rattle.demand_curve.proofs.DualLaws.{dual_falls_in_parts}
use Rattle.demand_curve.proofs.Smooth.{dual_is_smooth}
use Rattle.demand_curve.proofs.Limits.{span_least}
use Rattle.list_sums.proofs.Products.{*ℤ-assoc}
use Rattle.flow_orders.specs.Excess.{low_part_in, high_part_in}
use Rattle.flow_orders.specs.WholeUnits.{low_part, high_part}
use Rattle.flow_orders.proofs.Excess.{low_below, low_part-below, high_part-above, true_step}
use Rattle.flow_orders.specs.Orders.{Order}
use Rattle.flow_orders.proofs.Book.{IsConsistent, squares}
use Rattle.flow_orders.specs.Excess.{low_excess_in, high_excess_in, steepness}
use Rattle.flow_orders.specs.WholeUnits.{low_excess, high_excess}
use Rattle.flow_orders.specs.Moves.{risen, fallen}
use Rattle.flow_orders.specs.Duals.{share, exact_dual}
use Rattle.flow_orders.proofs.BookSums.{int_sum_by-pos, squares-le, squares_are, price_follows, price_one_more}
use Rattle.flow_orders.proofs.Moves.{IsRise, IsFall, rise_before, fall_before, risen_more, fallen_more}

-- ---- definitions

-- 2 * rate * span of each order divides N
abbrev pub AreShares : ℕ → List Order → Type 0
AreShares N orders = All (λ o. share N (terms_of o) * (2 * (terms_of o).rate * span (terms_of o)) ≡ N) orders

-- the true excess of an asset, in parts of 1/N of a unit
abbrev pub true_excess : ℕ → List Order → List ℤ → ℕ → ℤ
true_excess N orders prices asset = int_sum_by (λ o. weight_in o.row asset *ℤ pos (share N (terms_of o) * (2 * (terms_of o).rate) * scaled_demand (terms_of o) (portfolio_price o.row prices))) orders

-- the dual value of a book, in grains
abbrev pub dual_floors : List Order → List ℤ → ℕ
dual_floors orders prices = sum_by (λ o. dual_floor (terms_of o) (portfolio_price o.row prices)) orders

-- ---- the true excess

-- the high part is at least the exact demand times the weight, in parts of 1/N of a unit
pub high_above : (w : ℤ) (t : Terms) → IsWithinLimits t → (c : ℤ) (k N : ℕ) → k * span t ≡ N → (w *ℤ pos (k * scaled_demand t c)) ≤ℤ (pos N *ℤ high_part w t c)
high_above (pos n) t h c k N parts =
    omega (arith, ints, ap (λ y. n * ceil_rate t c * y) parts, mul-le-mul_left (n * k) (roundings_enclose_demand t h c).ceil_above)
high_above (negsuc n) t h c k N parts =
    let most : N * (suc n * floor_rate t c) ≤ suc n * k * scaled_demand t c = omega (arith, mul-le-mul_left (suc n * k) (roundings_enclose_demand t h c).floor_below, ap (λ y. suc n * floor_rate t c * y) parts) in
    let left : pos N *ℤ neg_ℤ (pos (suc n * floor_rate t c)) ≡ neg_ℤ (pos (N * (suc n * floor_rate t c))) = turned N (suc n * floor_rate t c) in
    rw left (omega (arith, ints, most))
  where
    turned : (N m : ℕ) → pos N *ℤ neg_ℤ (pos m) ≡ neg_ℤ (pos (N * m))
    turned N m =
        let none : up (neg_ℤ (pos m)) ≡ 0 = omega (arith, ints) in
        let all : down (neg_ℤ (pos m)) ≡ m = omega (arith, ints) in
        omega (arith, ints, product_is (pos N) (neg_ℤ (pos m)), ap (λ y. N * y) none, ap (λ y. N * y) all)

-- one order's share, multiplied out
units : (N s q S : ℕ) → s * (2 * q * S) ≡ N → s * (2 * q) * S ≡ N
units N s q S parts = omega (arith, parts)

module _ (N : ℕ) (orders : List Order) (common : AreShares N orders) (consistent : All IsConsistent orders) where
  -- the low excess is at most the true one
  pub low_excess-below : (prices : List ℤ) (asset : ℕ) → (pos N *ℤ low_excess orders prices asset) ≤ℤ true_excess N orders prices asset
  low_excess-below prices asset =
      let low = λ (o : Order). low_part (weight_in o.row asset) (terms_of o) (portfolio_price o.row prices) in
      let asked = λ (o : Order). weight_in o.row asset *ℤ pos (share N (terms_of o) * (2 * (terms_of o).rate) * scaled_demand (terms_of o) (portfolio_price o.row prices)) in
      rw (int_sum_by-scale low (pos N) orders) (int_sum_by-le (λ o. pos N *ℤ low o) asked orders
      (λ k d inside.
      let o : Order = slice_index_or orders k d in
      let h : IsConsistent o = consistent k d inside in
      low_below (weight_in o.row asset) (terms_of o) h.limits (portfolio_price o.row prices) (share N (terms_of o) * (2 * (terms_of o).rate)) N (units N (share N (terms_of o)) (terms_of o).rate (span (terms_of o)) (common k d inside))))

  -- the high excess is at least the true one
  pub high_excess-above : (prices : List ℤ) (asset : ℕ) → true_excess N orders prices asset ≤ℤ (pos N *ℤ high_excess orders prices asset)
  high_excess-above prices asset =
      let high = λ (o : Order). high_part (weight_in o.row asset) (terms_of o) (portfolio_price o.row prices) in
      let asked = λ (o : Order). weight_in o.row asset *ℤ pos (share N (terms_of o) * (2 * (terms_of o).rate) * scaled_demand (terms_of o) (portfolio_price o.row prices)) in
      rw (int_sum_by-scale high (pos N) orders) (int_sum_by-le asked (λ o. pos N *ℤ high o) orders
      (λ k d inside.
      let o : Order = slice_index_or orders k d in
      let h : IsConsistent o = consistent k d inside in
      high_above (weight_in o.row asset) (terms_of o) h.limits (portfolio_price o.row prices) (share N (terms_of o) * (2 * (terms_of o).rate)) N (units N (share N (terms_of o)) (terms_of o).rate (span (terms_of o)) (common k d inside))))

  -- the low excess in parts is at most the true one
  pub low_excess_in-below : (parts : ℕ) (prices : List ℤ) (asset : ℕ) → (pos N *ℤ low_excess_in parts orders prices asset) ≤ℤ (pos parts *ℤ true_excess N orders prices asset)
  low_excess_in-below parts prices asset =
      let low = λ (o : Order). low_part_in parts (weight_in o.row asset) (terms_of o) (portfolio_price o.row prices) in
      let asked = λ (o : Order). weight_in o.row asset *ℤ pos (share N (terms_of o) * (2 * (terms_of o).rate) * scaled_demand (terms_of o) (portfolio_price o.row prices)) in
      rw (int_sum_by-scale low (pos N) orders, int_sum_by-scale asked (pos parts) orders) (int_sum_by-le (λ o. pos N *ℤ low o) (λ o. pos parts *ℤ asked o) orders
      (λ k d inside.
      let o : Order = slice_index_or orders k d in
      let h : IsConsistent o = consistent k d inside in
      low_part-below parts (weight_in o.row asset) (terms_of o) h.limits (portfolio_price o.row prices) (share N (terms_of o) * (2 * (terms_of o).rate)) N (units N (share N (terms_of o)) (terms_of o).rate (span (terms_of o)) (common k d inside))))

  -- the high excess in parts is at least the true one
  pub high_excess_in-above : (parts : ℕ) (prices : List ℤ) (asset : ℕ) → (pos parts *ℤ true_excess N orders prices asset) ≤ℤ (pos N *ℤ high_excess_in parts orders prices asset)
  high_excess_in-above parts prices asset =
      let high = λ (o : Order). high_part_in parts (weight_in o.row asset) (terms_of o) (portfolio_price o.row prices) in
      let asked = λ (o : Order). weight_in o.row asset *ℤ pos (share N (terms_of o) * (2 * (terms_of o).rate) * scaled_demand (terms_of o) (portfolio_price o.row prices)) in
      rw (int_sum_by-scale high (pos N) orders, int_sum_by-scale asked (pos parts) orders) (int_sum_by-le (λ o. pos parts *ℤ asked o) (λ o. pos N *ℤ high o) orders
      (λ k d inside.
      let o : Order = slice_index_or orders k d in
      let h : IsConsistent o = consistent k d inside in
      high_part-above parts (weight_in o.row asset) (terms_of o) h.limits (portfolio_price o.row prices) (share N (terms_of o) * (2 * (terms_of o).rate)) N (units N (share N (terms_of o)) (terms_of o).rate (span (terms_of o)) (common k d inside))))

  -- a grain lowers the true excess by at most the slope bound
  pub true_excess_step : (prices : List ℤ) (asset : ℕ) (x : ℤ) → asset < length prices
      → true_excess N orders (set prices asset x) asset ≤ℤ (true_excess N orders (set prices asset (x +ℤ pos 1)) asset +ℤ pos (N * steepness orders asset))
  true_excess_step prices asset x within =
      let now = set prices asset x in
      let next = set prices asset (x +ℤ pos 1) in
      let asked = λ (prices : List ℤ) (o : Order). weight_in o.row asset *ℤ pos (share N (terms_of o) * (2 * (terms_of o).rate) * scaled_demand (terms_of o) (portfolio_price o.row prices)) in
      let square = λ (o : Order). weight_in o.row asset *ℤ weight_in o.row asset in
      let each = int_sum_by-le (λ o. pos 256 *ℤ asked now o) (λ o. pos 256 *ℤ asked next o +ℤ pos N *ℤ square o) orders
      (λ k d inside.
      let o : Order = slice_index_or orders k d in
      let h : IsConsistent o = consistent k d inside in
      rw (price_one_more o.row prices asset x h.lawful within)
      (true_step (weight_in o.row asset) (terms_of o) h.limits (portfolio_price o.row now) (share N (terms_of o) * (2 * (terms_of o).rate)) N (units N (share N (terms_of o)) (terms_of o).rate (span (terms_of o)) (common k d inside)))) in
      let split = int_sum_by-add (λ o. pos 256 *ℤ asked next o) (λ o. pos N *ℤ square o) orders in
      let all_squares : int_sum_by (λ o. pos N *ℤ square o) orders ≡ pos N *ℤ pos (squares orders asset) = sym (int_sum_by-scale square (pos N) orders) ∙ ap (λ y. pos N *ℤ y) (squares_are orders asset) in
      divided (true_excess N orders now asset) (true_excess N orders next asset) (squares orders asset) (steepness orders asset)
      (rw (split, ← int_sum_by-scale (asked now) (pos 256) orders, ← int_sum_by-scale (asked next) (pos 256) orders, all_squares) at each)
      (squares-le orders asset)
    where
      divided : (a b : ℤ) (square steep : ℕ) → (pos 256 *ℤ a) ≤ℤ (pos 256 *ℤ b +ℤ pos N *ℤ pos square) → square ≤ 256 * steep → a ≤ℤ (b +ℤ pos (N * steep))
      divided a b square steep h most = omega (arith, ints, h, mul-le-mul_left N most)

-- a product with a number that isn't negative keeps the order of two numbers
pub times_keeps : (n : ℕ) (a b : ℤ) → a ≤ℤ b → (pos n *ℤ a) ≤ℤ (pos n *ℤ b)
times_keeps n a b h =
    let sides : up a + down b ≤ up b + down a = omega (arith, ints, h) in
    omega (arith, ints, mul-le-mul_left n sides)

-- ---- after a rise the true excess is a part of a unit or more

-- a bound of one grain, times the parts
grain_in : (parts m : ℕ) (now next : ℤ) → now ≤ℤ (next +ℤ pos m) → (pos parts *ℤ now) ≤ℤ (pos parts *ℤ next +ℤ pos (parts * m))
grain_in parts m now next h =
    let sides : up now + down next ≤ up next + down now + m = omega (arith, ints, h) in
    omega (arith, ints, mul-le-mul_left parts sides)

-- if the low excess in parts is above the slope bound at one price, the true excess is a part of a unit or more a grain later
above_one : (N parts steep : ℕ) (low now next : ℤ) → pos (parts * steep) <ℤ low → (pos N *ℤ low) ≤ℤ (pos parts *ℤ now) → now ≤ℤ (next +ℤ pos (N * steep)) → pos N ≤ℤ (pos parts *ℤ next)
above_one N parts steep low now next above below step =
    let least : pos (suc (parts * steep)) ≤ℤ low = omega (arith, ints, above) in
    let grain = grain_in parts (N * steep) now next step in
    omega (arith, ints, times_keeps N (pos (suc (parts * steep))) low least, below, grain)

-- if the high excess in parts is below minus the slope bound at one price, the true excess is minus a part or less a grain later
below_one : (N parts steep : ℕ) (high now next : ℤ) → high <ℤ neg_ℤ (pos (parts * steep)) → (pos parts *ℤ next) ≤ℤ (pos N *ℤ high) → now ≤ℤ (next +ℤ pos (N * steep)) → (pos parts *ℤ now) ≤ℤ neg_ℤ (pos N)
below_one N parts steep high now next below above step =
    let most : high ≤ℤ negsuc (parts * steep) = omega (arith, ints, below) in
    let grain = grain_in parts (N * steep) now next step in
    omega (arith, ints, times_keeps N high (negsuc (parts * steep)) most, above, grain)

module _ (parts : ℕ) (some : 1 ≤ parts) (N : ℕ) (orders : List Order) (common : AreShares N orders) (consistent : All IsConsistent orders) where
  -- after a rise the true excess is a part of a unit or more
  pub excess_after_rise : (prices : List ℤ) (asset reach d : ℕ) → asset < length prices → IsRise parts orders prices asset reach d → pos N ≤ℤ (pos parts *ℤ true_excess N orders (risen prices asset d) asset)
  excess_after_rise prices asset reach zero within move = absurd (omega (arith, move.least))
  excess_after_rise prices asset reach (suc e) within move =
      above_one N parts (steepness orders asset) (low_excess_in parts orders (risen prices asset e) asset) (true_excess N orders (risen prices asset e) asset) (true_excess N orders (risen prices asset (suc e)) asset)
      (rise_before parts some orders consistent prices asset reach e move)
      (low_excess_in-below N orders common consistent parts (risen prices asset e) asset)
      (rw (risen_more prices asset e) at (true_excess_step N orders common consistent prices asset (price_of prices asset +ℤ pos e) within))

  -- after a fall it is minus a part of a unit or less
  pub excess_after_fall : (prices : List ℤ) (asset reach d : ℕ) → asset < length prices → IsFall parts orders prices asset reach d → (pos parts *ℤ true_excess N orders (fallen prices asset d) asset) ≤ℤ neg_ℤ (pos N)
  excess_after_fall prices asset reach zero within move = absurd (omega (arith, move.least))
  excess_after_fall prices asset reach (suc e) within move =
      below_one N parts (steepness orders asset) (high_excess_in parts orders (fallen prices asset e) asset) (true_excess N orders (fallen prices asset (suc e)) asset) (true_excess N orders (fallen prices asset e) asset)
      (fall_before parts some orders consistent prices asset reach e move)
      (high_excess_in-above N orders common consistent parts (fallen prices asset e) asset)
      (rw (fallen_more prices asset e) at (true_excess_step N orders common consistent prices asset (price_of prices asset -ℤ pos (suc e)) within))

-- ---- a move lowers the exact dual value

-- three factors in another order
turn : (k q e : ℕ) (w d : ℤ) → pos (k * (2 * q * e)) *ℤ (w *ℤ d) ≡ d *ℤ (w *ℤ pos (k * (2 * q) * e))
turn k q e w d =
    let same : k * (2 * q * e) ≡ k * (2 * q) * e = omega arith in
    let f = pos (k * (2 * q) * e) in
    ap (λ y. pos y *ℤ (w *ℤ d)) same ∙ *ℤ_comm f (w *ℤ d) ∙ ap (λ y. y *ℤ f) (*ℤ_comm w d) ∙ *ℤ-assoc d w f

-- one order's dual value, after its price moves by w * d
pub dual_part_falls : (t : Terms) → IsWithinLimits t → (c w d : ℤ) (k : ℕ)
    → (pos (k * scaled_dual t (c +ℤ w *ℤ d)) +ℤ d *ℤ (w *ℤ pos (k * (2 * t.rate) * scaled_demand t (c +ℤ w *ℤ d)))) ≤ℤ pos (k * scaled_dual t c)
dual_part_falls t h c w d k =
    let after = c +ℤ w *ℤ d in
    let move : after -ℤ c ≡ w *ℤ d = omega (arith, ints) in
    rw (move, turn k t.rate (scaled_demand t after) w d) at (dual_falls_in_parts t h c after k)

module _ (N : ℕ) (orders : List Order) (consistent : All IsConsistent orders) where
  -- if an asset's price moves from x to y, the exact dual value falls by at least the move times the true excess after it
  pub dual_falls_by_excess : (prices : List ℤ) (asset : ℕ) (x y : ℤ) → asset < length prices
      → (pos (exact_dual N orders (set prices asset y)) +ℤ (y -ℤ x) *ℤ true_excess N orders (set prices asset y) asset) ≤ℤ pos (exact_dual N orders (set prices asset x))
  dual_falls_by_excess prices asset x y within =
      let before = set prices asset x in
      let after = set prices asset y in
      let d = y -ℤ x in
      let dual = λ (prices : List ℤ) (o : Order). share N (terms_of o) * scaled_dual (terms_of o) (portfolio_price o.row prices) in
      let asked = λ (o : Order). weight_in o.row asset *ℤ pos (share N (terms_of o) * (2 * (terms_of o).rate) * scaled_demand (terms_of o) (portfolio_price o.row after)) in
      let each = int_sum_by-le (λ o. pos (dual after o) +ℤ d *ℤ asked o) (λ o. pos (dual before o)) orders
      (λ k e inside.
      let o : Order = slice_index_or orders k e in
      let h : IsConsistent o = consistent k e inside in
      rw (price_follows o.row prices asset x y h.lawful within)
      (dual_part_falls (terms_of o) h.limits (portfolio_price o.row before) (weight_in o.row asset) d (share N (terms_of o)))) in
      let split = int_sum_by-add (λ o. pos (dual after o)) (λ o. d *ℤ asked o) orders in
      rw (← int_sum_by-pos (dual after) orders, ← int_sum_by-pos (dual before) orders, int_sum_by-scale asked d orders, ← split) each

-- ---- a grain lowers the exact dual value by at least the true excess before it, less half of the slope bound

-- the square of what a weight moves one order's demand by, in parts
square_small : (N k q S n : ℕ) → k * (2 * q * S) ≡ N → 256 * q ≤ S → 512 * k * (q * n * (q * n)) ≤ N * (n * n)
square_small N k q S n shares gentle =
    omega (arith, ap (λ y. n * n * y) shares, mul-le-mul_left (2 * k * q * n * n) gentle)

-- one order's dual value, after its price rises by a weight
pub dual_part_rises : (w : ℤ) (t : Terms) → IsWithinLimits t → (c : ℤ) (k N : ℕ) → k * (2 * t.rate * span t) ≡ N
    → (pos (512 * (k * scaled_dual t (c +ℤ w))) +ℤ pos 512 *ℤ (w *ℤ pos (k * (2 * t.rate) * scaled_demand t c))) ≤ℤ (pos (512 * (k * scaled_dual t c)) +ℤ pos N *ℤ (w *ℤ w))
dual_part_rises (pos n) t h c k N shares =
    let gentle : 256 * t.rate ≤ span t = omega (arith, h.rate_most, span_least t h) in
    let smooth = mul-le-mul_left (512 * k) (dual_is_smooth t h c n).rise in
    let all : 512 * (k * scaled_dual t (c +ℤ pos n)) + 512 * (n * (k * (2 * t.rate) * scaled_demand t c)) ≤ 512 * (k * scaled_dual t c) + N * (n * n) = omega (arith, smooth, square_small N k t.rate (span t) n shares gentle) in
    omega (arith, ints, all)
dual_part_rises (negsuc n) t h c k N shares =
    let gentle : 256 * t.rate ≤ span t = omega (arith, h.rate_most, span_least t h) in
    let less : c -ℤ pos (suc n) ≡ c +ℤ negsuc n = omega (arith, ints) in
    let smooth = mul-le-mul_left (512 * k) (rw less at (dual_is_smooth t h c (suc n)).fall) in
    let all : 512 * (k * scaled_dual t (c +ℤ negsuc n)) ≤ 512 * (k * scaled_dual t c) + 512 * (suc n * (k * (2 * t.rate) * scaled_demand t c)) + N * (suc n * suc n) = omega (arith, smooth, square_small N k t.rate (span t) (suc n) shares gentle) in
    omega (arith, ints, all)

-- one order's dual value, after its price falls by a weight
pub dual_part_back : (w : ℤ) (t : Terms) → IsWithinLimits t → (c : ℤ) (k N : ℕ) → k * (2 * t.rate * span t) ≡ N
    → pos (512 * (k * scaled_dual t c)) ≤ℤ (pos (512 * (k * scaled_dual t (c +ℤ w))) +ℤ pos N *ℤ (w *ℤ w) +ℤ pos 512 *ℤ (w *ℤ pos (k * (2 * t.rate) * scaled_demand t (c +ℤ w))))
dual_part_back (pos n) t h c k N shares =
    let gentle : 256 * t.rate ≤ span t = omega (arith, h.rate_most, span_least t h) in
    let back : c +ℤ pos n -ℤ pos n ≡ c = omega (arith, ints) in
    let smooth = mul-le-mul_left (512 * k) (rw back at (dual_is_smooth t h (c +ℤ pos n) n).fall) in
    let all : 512 * (k * scaled_dual t c) ≤ 512 * (k * scaled_dual t (c +ℤ pos n)) + 512 * (n * (k * (2 * t.rate) * scaled_demand t (c +ℤ pos n))) + N * (n * n) = omega (arith, smooth, square_small N k t.rate (span t) n shares gentle) in
    omega (arith, ints, all)
dual_part_back (negsuc n) t h c k N shares =
    let gentle : 256 * t.rate ≤ span t = omega (arith, h.rate_most, span_least t h) in
    let back : c +ℤ negsuc n +ℤ pos (suc n) ≡ c = omega (arith, ints) in
    let smooth = mul-le-mul_left (512 * k) (rw back at (dual_is_smooth t h (c +ℤ negsuc n) (suc n)).rise) in
    let all : 512 * (k * scaled_dual t c) + 512 * (suc n * (k * (2 * t.rate) * scaled_demand t (c +ℤ negsuc n))) ≤ 512 * (k * scaled_dual t (c +ℤ negsuc n)) + N * (suc n * suc n) = omega (arith, smooth, square_small N k t.rate (span t) (suc n) shares gentle) in
    omega (arith, ints, all)

module _ (N : ℕ) (orders : List Order) (common : AreShares N orders) (consistent : All IsConsistent orders) where
  -- 512 times the exact dual value, as a sum in ℤ
  times_dual : (prices : List ℤ) → int_sum_by (λ (o : Order). pos (512 * (share N (terms_of o) * scaled_dual (terms_of o) (portfolio_price o.row prices)))) orders ≡ pos 512 *ℤ pos (exact_dual N orders prices)
  times_dual prices =
      let dual = λ (o : Order). share N (terms_of o) * scaled_dual (terms_of o) (portfolio_price o.row prices) in
      let same = int_sum_by-same_all (λ (o : Order). pos (512 * dual o)) (λ o. pos 512 *ℤ pos (dual o)) orders (λ k d inside. omega (arith, ints)) in
      same ∙ sym (int_sum_by-scale (λ (o : Order). pos (dual o)) (pos 512) orders) ∙ ap (λ y. pos 512 *ℤ y) (int_sum_by-pos dual orders)

  all_squares : (asset : ℕ) → int_sum_by (λ (o : Order). pos N *ℤ (weight_in o.row asset *ℤ weight_in o.row asset)) orders ≡ pos N *ℤ pos (squares orders asset)
  all_squares asset = sym (int_sum_by-scale (λ (o : Order). weight_in o.row asset *ℤ weight_in o.row asset) (pos N) orders) ∙ ap (λ y. pos N *ℤ y) (squares_are orders asset)

  -- a grain up lowers the exact dual value by at least the true excess before it, less half of the slope bound
  pub grain_rises : (prices : List ℤ) (asset : ℕ) (x : ℤ) → asset < length prices
      → (pos (2 * exact_dual N orders (set prices asset (x +ℤ pos 1))) +ℤ pos 2 *ℤ true_excess N orders (set prices asset x) asset) ≤ℤ pos (2 * exact_dual N orders (set prices asset x) + N * steepness orders asset)
  grain_rises prices asset x within =
      let now = set prices asset x in
      let next = set prices asset (x +ℤ pos 1) in
      let dual = λ (prices : List ℤ) (o : Order). pos (512 * (share N (terms_of o) * scaled_dual (terms_of o) (portfolio_price o.row prices))) in
      let asked = λ (o : Order). weight_in o.row asset *ℤ pos (share N (terms_of o) * (2 * (terms_of o).rate) * scaled_demand (terms_of o) (portfolio_price o.row now)) in
      let square = λ (o : Order). pos N *ℤ (weight_in o.row asset *ℤ weight_in o.row asset) in
      let each = int_sum_by-le (λ o. dual next o +ℤ pos 512 *ℤ asked o) (λ o. dual now o +ℤ square o) orders
      (λ k d inside.
      let o : Order = slice_index_or orders k d in
      let h : IsConsistent o = consistent k d inside in
      rw (price_one_more o.row prices asset x h.lawful within)
      (dual_part_rises (weight_in o.row asset) (terms_of o) h.limits (portfolio_price o.row now) (share N (terms_of o)) N (common k d inside))) in
      let left = int_sum_by-add (dual next) (λ o. pos 512 *ℤ asked o) orders in
      let right = int_sum_by-add (dual now) square orders in
      divided (exact_dual N orders now) (exact_dual N orders next) (squares orders asset) (steepness orders asset) (true_excess N orders now asset)
      (rw (left, right, times_dual next, times_dual now, all_squares asset, ← int_sum_by-scale asked (pos 512) orders) at each)
      (squares-le orders asset)
    where
      divided : (a b square steep : ℕ) (z : ℤ) → (pos 512 *ℤ pos b +ℤ pos 512 *ℤ z) ≤ℤ (pos 512 *ℤ pos a +ℤ pos N *ℤ pos square) → square ≤ 256 * steep → (pos (2 * b) +ℤ pos 2 *ℤ z) ≤ℤ pos (2 * a + N * steep)
      divided a b square steep z h most = omega (arith, ints, h, mul-le-mul_left N most)

  -- a grain down lowers the exact dual value by at least minus the true excess before it, less half of the slope bound
  pub grain_falls : (prices : List ℤ) (asset : ℕ) (x : ℤ) → asset < length prices
      → pos (2 * exact_dual N orders (set prices asset x)) ≤ℤ (pos (2 * exact_dual N orders (set prices asset (x +ℤ pos 1)) + N * steepness orders asset) +ℤ pos 2 *ℤ true_excess N orders (set prices asset (x +ℤ pos 1)) asset)
  grain_falls prices asset x within =
      let now = set prices asset x in
      let next = set prices asset (x +ℤ pos 1) in
      let dual = λ (prices : List ℤ) (o : Order). pos (512 * (share N (terms_of o) * scaled_dual (terms_of o) (portfolio_price o.row prices))) in
      let asked = λ (o : Order). weight_in o.row asset *ℤ pos (share N (terms_of o) * (2 * (terms_of o).rate) * scaled_demand (terms_of o) (portfolio_price o.row next)) in
      let square = λ (o : Order). pos N *ℤ (weight_in o.row asset *ℤ weight_in o.row asset) in
      let each = int_sum_by-le (dual now) (λ o. dual next o +ℤ square o +ℤ pos 512 *ℤ asked o) orders
      (λ k d inside.
      let o : Order = slice_index_or orders k d in
      let h : IsConsistent o = consistent k d inside in
      rw (price_one_more o.row prices asset x h.lawful within)
      (dual_part_back (weight_in o.row asset) (terms_of o) h.limits (portfolio_price o.row now) (share N (terms_of o)) N (common k d inside))) in
      let right = int_sum_by-add (λ o. dual next o +ℤ square o) (λ o. pos 512 *ℤ asked o) orders ∙ ap (λ y. y +ℤ int_sum_by (λ o. pos 512 *ℤ asked o) orders) (int_sum_by-add (dual next) square orders) in
      divided (exact_dual N orders now) (exact_dual N orders next) (squares orders asset) (steepness orders asset) (true_excess N orders next asset)
      (rw (right, times_dual next, times_dual now, all_squares asset, ← int_sum_by-scale asked (pos 512) orders) at each)
      (squares-le orders asset)
    where
      divided : (a b square steep : ℕ) (z : ℤ) → (pos 512 *ℤ pos a) ≤ℤ (pos 512 *ℤ pos b +ℤ pos N *ℤ pos square +ℤ pos 512 *ℤ z) → square ≤ 256 * steep → pos (2 * a) ≤ℤ (pos (2 * b + N * steep) +ℤ pos 2 *ℤ z)
      divided a b square steep z h most = omega (arith, ints, h, mul-le-mul_left N most)
