-- A walk lowers the exact dual value by at least its movement, and the dual values show it up to the number of orders.
use Rattle.std.proofs.Common.{◌≡◌, ℕ, zero, suc, ◌+◌, ◌*◌, ◌/◌, ◌≤◌, ◌<◌, ◌⊎◌, inl, inr, ℤ, pos, negsuc, ◌+ℤ◌, ◌-ℤ◌, ◌*ℤ◌, ◌≤ℤ◌, ◌<ℤ◌, List, [], ◌∷◌, length, get_or, ap, arith}
use Prim.Native.Nat.{◌∣◌}
use Rattle.std.specs.Prelude.{All, neg_ℤ}
use Rattle.std.proofs.Math.Nat.{mul-le-mul_left, mul-le-mul, mul-div_cancel, div-mul_cancel, lt_of_mul-lt-mul_left, le_of_mul-le-mul_left}
use Rattle.std.proofs.lemmas.Bool.{cases_lt}
use Rattle.std.proofs.lemmas.Int.{ints}
use Rattle.std.proofs.lemmas.List.{length-set}
use Rattle.std.proofs.lemmas.List.Sums.{sum_by-cons}
use borrow.Author.Differences.{up, down}
use Rattle.weight_rows.specs.Rows.{price_of, portfolio_price}
use Rattle.demand_curve.specs.Demand.{Terms, span, scaled_dual, dual_floor}
use Rattle.demand_curve.proofs.Limits.{span_least}
use Rattle.flow_orders.specs.Orders.{terms_of}
use Rattle.demand_curve.proofs.DualLaws.{dual_floor_in_parts}
use Rattle.flow_orders.specs.Orders.{Order}
use Rattle.flow_orders.proofs.Book.{IsConsistent}
use Rattle.flow_orders.specs.Moves.{risen, fallen}
use Rattle.flow_orders.specs.Duals.{share, IsCommonPart, exact_dual}
use Rattle.flow_orders.specs.Excess.{low_excess_in, high_excess_in, steepness}
use Rattle.flow_orders.specs.WholeUnits.{low_excess, high_excess}
use Rattle.flow_orders.proofs.Moves.{IsRise, IsFall, risen_none, fallen_none, risen_more, fallen_more}
use Rattle.flow_orders.proofs.Progress.{AreShares, true_excess, dual_floors, times_keeps, low_excess-below, high_excess-above, low_excess_in-below, high_excess_in-above, true_excess_step, dual_falls_by_excess, grain_rises, grain_falls}

-- ---- grain after grain

-- a dual and its excess, grain after grain: each grain lowers the dual by at least the excess after it, and by at least the excess before it
-- less half of the slope bound, which is the most that the excess falls by
pub record IsDescent (N steep : ℕ) (dual : ℕ → ℕ) (excess : ℕ → ℤ) : Type 0 where
  pub after : (e : ℕ) → (pos (dual (suc e)) +ℤ excess (suc e)) ≤ℤ pos (dual e)
  pub before : (e : ℕ) → (pos (2 * dual (suc e)) +ℤ pos 2 *ℤ excess e) ≤ℤ pos (2 * dual e + N * steep)
  pub step : (e : ℕ) → excess e ≤ℤ (excess (suc e) +ℤ pos (N * steep))
  pub start : pos (N * suc steep) ≤ℤ excess 0

module _ (N steep : ℕ) (dual : ℕ → ℕ) (excess : ℕ → ℤ) (descent : IsDescent N steep dual excess) where
  -- if the slope bound is 0 the excess never falls
  level : steep ≡ 0 → (e : ℕ) → pos N ≤ℤ excess e
  level none zero = let start = descent.start in let flat : N * suc steep ≡ N = rw none (omega arith) in omega (arith, ints, rw flat at start)
  level none (suc e) =
      let step = descent.step e in
      let flat : N * steep ≡ 0 = rw none (omega arith) in
      omega (arith, ints, rw flat at step, level none e)

  -- if the slope bound is 0 the dual falls by N a grain
  level_falls : steep ≡ 0 → (d : ℕ) → dual d + N * d ≤ dual 0
  level_falls none zero = omega arith
  level_falls none (suc e) =
      let after = descent.after e in
      let least : dual (suc e) + N ≤ dual e = omega (arith, ints, after, level none (suc e)) in
      omega (arith, least, level_falls none e)

  -- the first grain lowers the dual by at least N and half of the slope bound
  first_grain : 2 * dual 1 + 2 * N + N * steep ≤ 2 * dual 0
  first_grain = let before = descent.before 0 in let start = descent.start in omega (arith, ints, before, start)

  -- while the excess is at least the slope bound, the dual falls by N a grain and half of the slope bound more
  steep_falls : 1 ≤ steep → (e : ℕ) → ((i : ℕ) → 1 ≤ i → i ≤ suc e → pos (N * steep) ≤ℤ excess i) → 2 * dual (suc e) + 2 * N * suc e + N * steep ≤ 2 * dual 0
  steep_falls some zero high = omega (arith, first_grain)
  steep_falls some (suc e) high =
      let after = descent.after (suc e) in
      let here = high (suc (suc e)) (omega arith) (omega arith) in
      let least : dual (suc (suc e)) + N * steep ≤ dual (suc e) = omega (arith, ints, after, here) in
      omega (arith, least, mul-le-mul_left N some, steep_falls some e (λ i one most. high i one (omega (arith, most))))

  -- if the excess is at least the slope bound before the last grain, the dual falls by N a grain
  pub dual_falls : (d : ℕ) → 1 ≤ d → ((i : ℕ) → 1 ≤ i → i < d → pos (N * steep) ≤ℤ excess i) → dual d + N * d ≤ dual 0
  dual_falls d some high =
      elim (cases_lt 0 steep) [
        | inl rises ↦ by_grains rises d some high
        | inr none ↦ level_falls (omega (arith, none)) d
      ]
    where
      by_grains : 1 ≤ steep → (d : ℕ) → 1 ≤ d → ((i : ℕ) → 1 ≤ i → i < d → pos (N * steep) ≤ℤ excess i) → dual d + N * d ≤ dual 0
      by_grains rises zero some high = absurd (omega (arith, some))
      by_grains rises (suc zero) some high = omega (arith, first_grain)
      by_grains rises (suc (suc e)) some high =
          let so_far = steep_falls rises e (λ i one most. high i one (omega (arith, most))) in
          let before = descent.before (suc e) in
          let here = high (suc e) (omega arith) (omega arith) in
          let last : 2 * dual (suc (suc e)) + N * steep ≤ 2 * dual (suc e) = omega (arith, ints, before, here) in
          omega (arith, last, so_far, mul-le-mul_left N rises)

-- ---- one move

-- an asset's price moves by d grains: a rise or a fall
abbrev pub IsMove : ℕ → List Order → List ℤ → ℕ → ℕ → ℕ → List ℤ → Type 0
IsMove parts orders prices asset reach d next =
    (IsRise parts orders prices asset reach d × (next ≡ risen prices asset d)) ⊎ (IsFall parts orders prices asset reach d × (next ≡ fallen prices asset d))

-- if an excess in parts is above the slope bound, so is the true one, times N
steep_above : (N parts steep : ℕ) (low z : ℤ) → 1 ≤ parts → pos (parts * steep) <ℤ low → (pos N *ℤ low) ≤ℤ (pos parts *ℤ z) → pos (N * steep) ≤ℤ z
steep_above N parts steep low z some above below =
    let least : pos (parts * steep) ≤ℤ low = omega (arith, ints, above) in
    let times = times_keeps N (pos (parts * steep)) low least in
    let sides : parts * (N * steep + down z) ≤ parts * up z = omega (arith, ints, times, below) in
    let one : N * steep + down z ≤ up z = le_of_mul-le-mul_left sides some in
    omega (arith, ints, one)

steep_below : (N parts steep : ℕ) (high z : ℤ) → 1 ≤ parts → high <ℤ neg_ℤ (pos (parts * steep)) → (pos parts *ℤ z) ≤ℤ (pos N *ℤ high) → pos (N * steep) ≤ℤ neg_ℤ z
steep_below N parts steep high z some below above =
    let sides_high : parts * steep + up high ≤ down high = omega (arith, ints, below) in
    let times = mul-le-mul_left N sides_high in
    let sides : parts * (N * steep + up z) ≤ parts * down z = omega (arith, ints, times, above) in
    let one : N * steep + up z ≤ down z = le_of_mul-le-mul_left sides some in
    omega (arith, ints, one)

module _ (parts : ℕ) (some : 1 ≤ parts) (N : ℕ) (orders : List Order) (common : AreShares N orders) (consistent : All IsConsistent orders) where
  -- a rise lowers the exact dual value grain after grain
  rise_descends : (prices : List ℤ) (asset : ℕ) → asset < length prices → pos (steepness orders asset) <ℤ low_excess orders prices asset
      → IsDescent N (steepness orders asset) (λ e. exact_dual N orders (risen prices asset e)) (λ e. true_excess N orders (risen prices asset e) asset)
  rise_descends prices asset within above = record {
    after = λ e.
        let p = price_of prices asset in
        let gap : p +ℤ pos (suc e) -ℤ (p +ℤ pos e) ≡ pos 1 = omega (arith, ints) in
        let fall = rw gap at (dual_falls_by_excess N orders consistent prices asset (p +ℤ pos e) (p +ℤ pos (suc e)) within) in
        omega (arith, ints, fall);
    before = λ e. rw (risen_more prices asset e) at (grain_rises N orders common consistent prices asset (price_of prices asset +ℤ pos e) within);
    step = λ e. rw (risen_more prices asset e) at (true_excess_step N orders common consistent prices asset (price_of prices asset +ℤ pos e) within);
    start =
        let least : pos (suc (steepness orders asset)) ≤ℤ low_excess orders prices asset = omega (arith, ints, above) in
        let times = times_keeps N (pos (suc (steepness orders asset))) (low_excess orders prices asset) least in
        rw (risen_none prices asset) (omega (arith, ints, times, low_excess-below N orders common consistent prices asset));
  }

  -- a fall lowers the exact dual value grain after grain
  fall_descends : (prices : List ℤ) (asset : ℕ) → asset < length prices → high_excess orders prices asset <ℤ neg_ℤ (pos (steepness orders asset))
      → IsDescent N (steepness orders asset) (λ e. exact_dual N orders (fallen prices asset e)) (λ e. neg_ℤ (true_excess N orders (fallen prices asset e) asset))
  fall_descends prices asset within below = record {
    after = λ e.
        let p = price_of prices asset in
        let gap : p -ℤ pos (suc e) -ℤ (p -ℤ pos e) ≡ negsuc 0 = omega (arith, ints) in
        let fall = rw gap at (dual_falls_by_excess N orders consistent prices asset (p -ℤ pos e) (p -ℤ pos (suc e)) within) in
        omega (arith, ints, fall);
    before = λ e. let grain = rw (fallen_more prices asset e) at (grain_falls N orders common consistent prices asset (price_of prices asset -ℤ pos (suc e)) within) in omega (arith, ints, grain);
    step = λ e. let grain = rw (fallen_more prices asset e) at (true_excess_step N orders common consistent prices asset (price_of prices asset -ℤ pos (suc e)) within) in omega (arith, ints, grain);
    start =
        let sides : suc (steepness orders asset) + up (high_excess orders prices asset) ≤ down (high_excess orders prices asset) = omega (arith, ints, below) in
        let times = mul-le-mul_left N sides in
        rw (fallen_none prices asset) (omega (arith, ints, times, high_excess-above N orders common consistent prices asset));
  }

  -- a rise by d lowers the exact dual value by at least N * d parts
  pub rise_lowers_dual : (prices : List ℤ) (asset reach d : ℕ) → asset < length prices → IsRise parts orders prices asset reach d → exact_dual N orders (risen prices asset d) + N * d ≤ exact_dual N orders prices
  rise_lowers_dual prices asset reach d within move =
      let falls = dual_falls N (steepness orders asset) (λ e. exact_dual N orders (risen prices asset e)) (λ e. true_excess N orders (risen prices asset e) asset) (rise_descends prices asset within move.above) d move.least
      (λ e one less. steep_above N parts (steepness orders asset) (low_excess_in parts orders (risen prices asset e) asset) (true_excess N orders (risen prices asset e) asset) some (move.first e one less) (low_excess_in-below N orders common consistent parts (risen prices asset e) asset)) in
      rw (risen_none prices asset) at falls

  -- a fall by d lowers the exact dual value by at least N * d parts
  pub fall_lowers_dual : (prices : List ℤ) (asset reach d : ℕ) → asset < length prices → IsFall parts orders prices asset reach d → exact_dual N orders (fallen prices asset d) + N * d ≤ exact_dual N orders prices
  fall_lowers_dual prices asset reach d within move =
      let falls = dual_falls N (steepness orders asset) (λ e. exact_dual N orders (fallen prices asset e)) (λ e. neg_ℤ (true_excess N orders (fallen prices asset e) asset)) (fall_descends prices asset within move.below) d move.least
      (λ e one less. steep_below N parts (steepness orders asset) (high_excess_in parts orders (fallen prices asset e) asset) (true_excess N orders (fallen prices asset e) asset) some (move.first e one less) (high_excess_in-above N orders common consistent parts (fallen prices asset e) asset)) in
      rw (fallen_none prices asset) at falls

  -- a move lowers the exact dual value by at least N * d parts
  pub move_lowers_dual : (prices : List ℤ) (asset reach d : ℕ) (next : List ℤ) → asset < length prices → IsMove parts orders prices asset reach d next → exact_dual N orders next + N * d ≤ exact_dual N orders prices
  move_lowers_dual prices asset reach d next within move =
      elim move [
        | inl rise ↦ rw rise.1 (rise_lowers_dual prices asset reach d within rise.0)
        | inr fall ↦ rw fall.1 (fall_lowers_dual prices asset reach d within fall.0)
      ]

-- ---- walks

-- a walk makes a move of each asset in turn; its movement is the sum of the amounts moved
abbrev pub IsWalk : ℕ → List Order → ℕ → List ℤ → List ℕ → List ℤ → ℕ → Type 0
IsWalk parts orders reach start [] stop movement = (stop ≡ start) × (movement ≡ 0)
IsWalk parts orders reach start (asset ∷ assets) stop movement =
    (next : List ℤ) × (d : ℕ) × (rest : ℕ) × (asset < length start) × IsMove parts orders start asset reach d next × IsWalk parts orders reach next assets stop rest × (movement ≡ d + rest)

module _ (parts : ℕ) (orders : List Order) (reach : ℕ) where
  -- a move is by at least a grain
  pub move_is_some : (prices : List ℤ) (asset d : ℕ) (next : List ℤ) → IsMove parts orders prices asset reach d next → 1 ≤ d
  move_is_some prices asset d next move =
      elim move [ inl rise ↦ rise.0.least | inr fall ↦ fall.0.least ]

  -- a move keeps the number of prices
  pub length-move : (prices : List ℤ) (asset d : ℕ) (next : List ℤ) → IsMove parts orders prices asset reach d next → length next ≡ length prices
  length-move prices asset d next move =
      elim move [
        | inl rise ↦ rw rise.1 (length-set prices asset (price_of prices asset +ℤ pos d))
        | inr fall ↦ rw fall.1 (length-set prices asset (price_of prices asset -ℤ pos d))
      ]

  -- a walk moves at least a grain for each asset along it
  pub movement_at_least : (assets : List ℕ) (start stop : List ℤ) (movement : ℕ) → IsWalk parts orders reach start assets stop movement → length assets ≤ movement
  movement_at_least [] start stop movement walk = omega arith
  movement_at_least (asset ∷ assets) start stop movement (next, d, rest, within, move, walk, sum) =
      omega (arith, sum, move_is_some start asset d next move, movement_at_least assets next stop rest walk)

  -- a walk lowers the exact dual value by at least N times its movement
  pub walk_lowers_dual : 1 ≤ parts → (N : ℕ) → AreShares N orders → All IsConsistent orders → (assets : List ℕ) (start stop : List ℤ) (movement : ℕ) → IsWalk parts orders reach start assets stop movement
      → exact_dual N orders stop + N * movement ≤ exact_dual N orders start
  walk_lowers_dual some N common consistent [] start stop movement (same, none) = rw (same, none) (omega arith)
  walk_lowers_dual some N common consistent (asset ∷ assets) start stop movement (next, d, rest, within, move, walk, sum) =
      let first = move_lowers_dual parts some N orders common consistent start asset reach d next within move in
      let others = walk_lowers_dual some N common consistent assets next stop rest walk in
      rw sum (joined (exact_dual N orders start) (exact_dual N orders next) (exact_dual N orders stop) first others)
    where
      joined : (a b c : ℕ) → b + N * d ≤ a → c + N * rest ≤ b → c + N * (d + rest) ≤ a
      joined a b c first others = omega (arith, first, others)

-- ---- dual values

-- the dual value is the exact dual value, each order's rounded down to a grain
pub floors_enclose_dual : (N : ℕ) (orders : List Order) (prices : List ℤ) → 1 ≤ N → AreShares N orders → All IsConsistent orders
    → (N * dual_floors orders prices ≤ exact_dual N orders prices) × (exact_dual N orders prices + length orders ≤ N * (dual_floors orders prices + length orders))
floors_enclose_dual N [] prices some common consistent = (omega arith, omega arith)
floors_enclose_dual N (o ∷ orders) prices some common consistent =
    let share_here : share N (terms_of o) * (2 * (terms_of o).rate * span (terms_of o)) ≡ N = common 0 o (omega arith) in
    let h : IsConsistent o = consistent 0 o (omega arith) in
    let one = dual_floor_in_parts (terms_of o) h.limits (portfolio_price o.row prices) (share N (terms_of o)) N share_here some in
    let others = floors_enclose_dual N orders prices some (λ k d inside. common (suc k) d (omega (arith, inside))) (λ k d inside. consistent (suc k) d (omega (arith, inside))) in
    let floors = sum_by-cons (λ (o : Order). dual_floor (terms_of o) (portfolio_price o.row prices)) o orders in
    let duals = sum_by-cons (λ (o : Order). share N (terms_of o) * scaled_dual (terms_of o) (portfolio_price o.row prices)) o orders in
    rw (floors, duals) (joined (dual_floor (terms_of o) (portfolio_price o.row prices)) (dual_floors orders prices) (share N (terms_of o) * scaled_dual (terms_of o) (portfolio_price o.row prices)) (exact_dual N orders prices) (length orders) one others)
  where
    joined : (f fs e es n : ℕ) → (N * f ≤ e) × (e < N * f + N) → (N * fs ≤ es) × (es + n ≤ N * (fs + n)) → (N * (f + fs) ≤ e + es) × (e + es + suc n ≤ N * (f + fs + suc n))
    joined f fs e es n one others = (omega (arith, one, others), omega (arith, one, others))

-- ---- a common number

-- 2 * rate * span of an order: its parts
abbrev pub parts_of : Order → ℕ
parts_of o = 2 * (terms_of o).rate * span (terms_of o)

-- the product of the parts of all orders
unfoldable pub common_parts : List Order → ℕ
common_parts [] = 1
common_parts (o ∷ orders) = parts_of o * common_parts orders

parts-some : (o : Order) → IsConsistent o → 1 ≤ parts_of o
parts-some o h =
    let rate : 1 ≤ (terms_of o).rate = omega (arith, h.limits.room_least, h.limits.room_most) in
    let whole : 1 ≤ span (terms_of o) = omega (arith, span_least (terms_of o) h.limits) in
    omega (arith, mul-le-mul rate whole)

-- the product of the parts isn't 0
pub common_parts-some : (orders : List Order) → All IsConsistent orders → 1 ≤ common_parts orders
unfolding common_parts
common_parts-some [] consistent = omega arith
common_parts-some (o ∷ orders) consistent =
    let here : 1 ≤ parts_of o = parts-some o (consistent 0 o (omega arith)) in
    let others : 1 ≤ common_parts orders = common_parts-some orders (λ k d inside. consistent (suc k) d (omega (arith, inside))) in
    mul-le-mul here others

-- the parts of each order divide the product
divides : (orders : List Order) (k : ℕ) (d : Order) → k < length orders → (m : ℕ) × (m * parts_of (get_or orders k d) ≡ common_parts orders)
unfolding common_parts
divides [] k d inside = absurd (omega (arith, inside))
divides (o ∷ orders) zero d inside = (common_parts orders, omega arith)
divides (o ∷ orders) (suc k) d inside =
    let rest = divides orders k d (omega (arith, inside)) in
    (parts_of o * rest.0, omega (arith, ap (λ y. parts_of o * y) rest.1))

-- the quotient by an order's parts is its share
share-divides : (N m : ℕ) (t : Terms) → 1 ≤ 2 * t.rate * span t → m * (2 * t.rate * span t) ≡ N → share N t * (2 * t.rate * span t) ≡ N
unfolding share
share-divides N m t some times =
    let part : N / (2 * t.rate * span t) ≡ m = rw (← times) (mul-div_cancel m some) in
    rw part times

-- a number that the parts of each order divide is a common one
pub common_from_divides : (N : ℕ) (orders : List Order) → All (λ o. parts_of o ∣ N) orders → AreShares N orders
unfolding share
common_from_divides N orders all k d inside =
    div-mul_cancel (parts_of (get_or orders k d)) (all k d inside)

-- every book has a number in parts of which its duals are whole: the product
pub common_parts-common : (orders : List Order) → All IsConsistent orders → AreShares (common_parts orders) orders
common_parts-common orders consistent k d inside =
    let m = divides orders k d inside in
    share-divides (common_parts orders) m.0 (terms_of (get_or orders k d)) (parts-some (get_or orders k d) (consistent k d inside)) m.1

-- every book has a common part
pub common_part_is_there : (orders : List Order) → All IsConsistent orders → (N : ℕ) × IsCommonPart N orders
common_part_is_there orders consistent = (common_parts orders, (common_parts-some orders consistent, common_parts-common orders consistent))

-- a walk lowers the dual value by more than its movement less the number of orders
pub floors_fall : (parts : ℕ) → 1 ≤ parts → (orders : List Order) (reach : ℕ) → All IsConsistent orders → 1 ≤ length orders → (assets : List ℕ) (start stop : List ℤ) (movement : ℕ) → IsWalk parts orders reach start assets stop movement
    → dual_floors orders stop + movement < dual_floors orders start + length orders
floors_fall parts whole orders reach consistent some assets start stop movement walk =
    let N = common_parts orders in
    let one : 1 ≤ common_parts orders = common_parts-some orders consistent in
    let common = common_parts-common orders consistent in
    compared (common_parts orders) (dual_floors orders start) (dual_floors orders stop) (exact_dual N orders start) (exact_dual N orders stop) (length orders) movement some
    (floors_enclose_dual N orders start one common consistent).1 (floors_enclose_dual N orders stop one common consistent).0 (walk_lowers_dual parts orders reach whole N common consistent assets start stop movement walk)
  where
    compared : (N f g d e n m : ℕ) → 1 ≤ n → d + n ≤ N * (f + n) → N * g ≤ e → e + N * m ≤ d → g + m < f + n
    compared N f g d e n m some above below fall = lt_of_mul-lt-mul_left N (omega (arith, some, above, below, fall))
