-- A move of one asset's price, and what is settled after it.
use Rattle.std.proofs.Common.{◌≡◌, ℕ, zero, suc, ◌+◌, ◌*◌, ◌≤◌, ◌<◌, ◌⊎◌, ℤ, pos, negsuc, ◌+ℤ◌, ◌-ℤ◌, ◌*ℤ◌, ◌≤ℤ◌, ◌<ℤ◌, List, length, set, arith}
use Rattle.std.specs.Prelude.{All, neg_ℤ}
use Rattle.std.proofs.Math.Nat.{mul-le-mul_left, le_of_mul-le-mul_left}
use Rattle.std.proofs.lemmas.Int.{ints}
use borrow.Author.Differences.{up, down}
use Rattle.weight_rows.specs.Rows.{price_of}
use Rattle.flow_orders.specs.Orders.{Order}
use Rattle.flow_orders.proofs.Book.{IsConsistent, IsSettled}
use Rattle.flow_orders.specs.Excess.{low_excess_in, high_excess_in, steepness}
use Rattle.flow_orders.specs.WholeUnits.{low_excess, high_excess}
use Rattle.flow_orders.specs.Moves.{risen, fallen}
use Rattle.flow_orders.proofs.BookSums.{own_price}
use Rattle.flow_orders.proofs.BookLaws.{low_above_next_high, low_excess-whole, high_excess-whole}

-- an asset's price rises by d: the least amount in 1 to `reach` at which the low excess in parts is at most the slope bound in parts,
-- or `reach` if there is none
pub record IsRise (parts : ℕ) (orders : List Order) (prices : List ℤ) (asset reach d : ℕ) : Type 0 where
  pub above : pos (steepness orders asset) <ℤ low_excess orders prices asset
  pub least : 1 ≤ d
  pub most : d ≤ reach
  pub first : (e : ℕ) → 1 ≤ e → e < d → pos (parts * steepness orders asset) <ℤ low_excess_in parts orders (risen prices asset e) asset
  pub ends : (low_excess_in parts orders (risen prices asset d) asset ≤ℤ pos (parts * steepness orders asset)) ⊎ (d ≡ reach)

-- an asset's price falls by d: the least amount in 1 to `reach` at which the high excess in parts is at least minus the slope bound
-- in parts, or `reach` if there is none
pub record IsFall (parts : ℕ) (orders : List Order) (prices : List ℤ) (asset reach d : ℕ) : Type 0 where
  pub below : high_excess orders prices asset <ℤ neg_ℤ (pos (steepness orders asset))
  pub least : 1 ≤ d
  pub most : d ≤ reach
  pub first : (e : ℕ) → 1 ≤ e → e < d → high_excess_in parts orders (fallen prices asset e) asset <ℤ neg_ℤ (pos (parts * steepness orders asset))
  pub ends : (neg_ℤ (pos (parts * steepness orders asset)) ≤ℤ high_excess_in parts orders (fallen prices asset d) asset) ⊎ (d ≡ reach)

-- a rise by 0 changes nothing
pub risen_none : (prices : List ℤ) (asset : ℕ) → risen prices asset 0 ≡ prices
risen_none prices asset =
    let same : price_of prices asset +ℤ pos 0 ≡ price_of prices asset = omega (arith, ints) in
    rw same (own_price prices asset)

pub fallen_none : (prices : List ℤ) (asset : ℕ) → fallen prices asset 0 ≡ prices
fallen_none prices asset =
    let same : price_of prices asset -ℤ pos 0 ≡ price_of prices asset = omega (arith, ints) in
    rw same (own_price prices asset)

-- ---- parts and whole units

-- a number above a bound is above it in parts
pub times_above : (parts n : ℕ) (z : ℤ) → 1 ≤ parts → pos n <ℤ z → pos (parts * n) <ℤ (pos parts *ℤ z)
times_above parts n z some h =
    let sides : suc n + down z ≤ up z = omega (arith, ints, h) in
    omega (arith, ints, some, mul-le-mul_left parts sides)

pub times_below : (parts n : ℕ) (z : ℤ) → 1 ≤ parts → z <ℤ neg_ℤ (pos n) → (pos parts *ℤ z) <ℤ neg_ℤ (pos (parts * n))
times_below parts n z some h =
    let sides : suc n + up z ≤ down z = omega (arith, ints, h) in
    omega (arith, ints, some, mul-le-mul_left parts sides)

pub times_at_most : (parts n : ℕ) (z : ℤ) → 1 ≤ parts → (pos parts *ℤ z) ≤ℤ pos (parts * n) → z ≤ℤ pos n
times_at_most parts n z some h =
    let sides : parts * up z ≤ parts * (n + down z) = omega (arith, ints, h) in
    let one : up z ≤ n + down z = le_of_mul-le-mul_left sides some in
    omega (arith, ints, one)

pub times_at_least : (parts n : ℕ) (z : ℤ) → 1 ≤ parts → neg_ℤ (pos (parts * n)) ≤ℤ (pos parts *ℤ z) → neg_ℤ (pos n) ≤ℤ z
times_at_least parts n z some h =
    let sides : parts * down z ≤ parts * (n + up z) = omega (arith, ints, h) in
    let one : down z ≤ n + up z = le_of_mul-le-mul_left sides some in
    omega (arith, ints, one)

-- what is positive in parts is positive
pub times_positive : (parts : ℕ) (z : ℤ) → pos 1 ≤ℤ (pos parts *ℤ z) → pos 1 ≤ℤ z
times_positive parts z h = by z h
  where
    by : (z : ℤ) → pos 1 ≤ℤ (pos parts *ℤ z) → pos 1 ≤ℤ z
    by (pos zero) h = absurd (omega (arith, ints, h))
    by (pos (suc n)) h = omega (arith, ints)
    by (negsuc n) h = absurd (omega (arith, ints, h))

pub times_negative : (parts : ℕ) (z : ℤ) → (pos parts *ℤ z) ≤ℤ negsuc 0 → z ≤ℤ negsuc 0
times_negative parts z h = by z h
  where
    by : (z : ℤ) → (pos parts *ℤ z) ≤ℤ negsuc 0 → z ≤ℤ negsuc 0
    by (pos n) h = absurd (omega (arith, ints, h))
    by (negsuc n) h = omega (arith, ints)

module _ (parts : ℕ) (some : 1 ≤ parts) (orders : List Order) (consistent : All IsConsistent orders) where
  -- a low excess above the slope bound in whole units is above it in parts
  pub above_in : (prices : List ℤ) (asset : ℕ) → pos (steepness orders asset) <ℤ low_excess orders prices asset → pos (parts * steepness orders asset) <ℤ low_excess_in parts orders prices asset
  above_in prices asset above =
      let whole = low_excess-whole parts orders prices asset consistent in
      let times = times_above parts (steepness orders asset) (low_excess orders prices asset) some above in
      omega (arith, ints, whole, times)

  pub below_in : (prices : List ℤ) (asset : ℕ) → high_excess orders prices asset <ℤ neg_ℤ (pos (steepness orders asset)) → high_excess_in parts orders prices asset <ℤ neg_ℤ (pos (parts * steepness orders asset))
  below_in prices asset below =
      let whole = high_excess-whole parts orders prices asset consistent in
      let times = times_below parts (steepness orders asset) (high_excess orders prices asset) some below in
      omega (arith, ints, whole, times)

  -- a low excess at most the slope bound in parts is at most it in whole units
  pub low_from : (prices : List ℤ) (asset : ℕ) → low_excess_in parts orders prices asset ≤ℤ pos (parts * steepness orders asset) → low_excess orders prices asset ≤ℤ pos (steepness orders asset)
  low_from prices asset low =
      let whole = low_excess-whole parts orders prices asset consistent in
      times_at_most parts (steepness orders asset) (low_excess orders prices asset) some (omega (arith, ints, whole, low))

  pub high_from : (prices : List ℤ) (asset : ℕ) → neg_ℤ (pos (parts * steepness orders asset)) ≤ℤ high_excess_in parts orders prices asset → neg_ℤ (pos (steepness orders asset)) ≤ℤ high_excess orders prices asset
  high_from prices asset high =
      let whole = high_excess-whole parts orders prices asset consistent in
      times_at_least parts (steepness orders asset) (high_excess orders prices asset) some (omega (arith, ints, whole, high))

  -- a grain before the end of a rise, the low excess in parts is above the slope bound
  pub rise_before : (prices : List ℤ) (asset reach e : ℕ) → IsRise parts orders prices asset reach (suc e) → pos (parts * steepness orders asset) <ℤ low_excess_in parts orders (risen prices asset e) asset
  rise_before prices asset reach zero move = rw (risen_none prices asset) (above_in prices asset move.above)
  rise_before prices asset reach (suc e) move = move.first (suc e) (omega arith) (omega arith)

  -- a grain before the end of a fall, the high excess in parts is below minus the slope bound
  pub fall_before : (prices : List ℤ) (asset reach e : ℕ) → IsFall parts orders prices asset reach (suc e) → high_excess_in parts orders (fallen prices asset e) asset <ℤ neg_ℤ (pos (parts * steepness orders asset))
  fall_before prices asset reach zero move = rw (fallen_none prices asset) (below_in prices asset move.below)
  fall_before prices asset reach (suc e) move = move.first (suc e) (omega arith) (omega arith)

  -- if a grain takes the low excess from above the slope bound to at most it, the asset is settled, with a high excess of 1 or more
  pub settled_above : (prices : List ℤ) (asset : ℕ) (x : ℤ) → asset < length prices
      → pos (parts * steepness orders asset) <ℤ low_excess_in parts orders (set prices asset x) asset
      → low_excess_in parts orders (set prices asset (x +ℤ pos 1)) asset ≤ℤ pos (parts * steepness orders asset)
      → (pos 1 ≤ℤ high_excess orders (set prices asset (x +ℤ pos 1)) asset) × IsSettled orders (set prices asset (x +ℤ pos 1)) asset
  settled_above prices asset x within before after =
      let next = set prices asset (x +ℤ pos 1) in
      let step = low_above_next_high parts orders prices asset x consistent within in
      let whole = high_excess-whole parts orders next asset consistent in
      let one : pos 1 ≤ℤ high_excess orders next asset = times_positive parts (high_excess orders next asset) (omega (arith, ints, step, before, whole)) in
      (one, record { low = low_from next asset after; high = omega (arith, ints, one) })

  -- if a grain takes the high excess from below minus the slope bound to at least that, the asset is settled, with a low excess of -1 or less
  pub settled_below : (prices : List ℤ) (asset : ℕ) (x : ℤ) → asset < length prices
      → high_excess_in parts orders (set prices asset (x +ℤ pos 1)) asset <ℤ neg_ℤ (pos (parts * steepness orders asset))
      → neg_ℤ (pos (parts * steepness orders asset)) ≤ℤ high_excess_in parts orders (set prices asset x) asset
      → (low_excess orders (set prices asset x) asset ≤ℤ negsuc 0) × IsSettled orders (set prices asset x) asset
  settled_below prices asset x within before after =
      let now = set prices asset x in
      let step = low_above_next_high parts orders prices asset x consistent within in
      let whole = low_excess-whole parts orders now asset consistent in
      let one : low_excess orders now asset ≤ℤ negsuc 0 = times_negative parts (low_excess orders now asset) (omega (arith, ints, step, before, whole)) in
      (one, record { low = omega (arith, ints, one); high = high_from now asset after })

-- one grain more of a rise
pub risen_more : (prices : List ℤ) (asset e : ℕ) → price_of prices asset +ℤ pos e +ℤ pos 1 ≡ price_of prices asset +ℤ pos (suc e)
risen_more prices asset e = omega (arith, ints)

pub fallen_more : (prices : List ℤ) (asset e : ℕ) → price_of prices asset -ℤ pos (suc e) +ℤ pos 1 ≡ price_of prices asset -ℤ pos e
fallen_more prices asset e = omega (arith, ints)

module _ (parts : ℕ) (some : 1 ≤ parts) (orders : List Order) (consistent : All IsConsistent orders) where
  -- a rise that ends at or below the slope bound settles the asset, with a high excess of 1 or more
  pub settled_after_rise : (prices : List ℤ) (asset reach d : ℕ) → asset < length prices → IsRise parts orders prices asset reach d
      → low_excess_in parts orders (risen prices asset d) asset ≤ℤ pos (parts * steepness orders asset)
      → (pos 1 ≤ℤ high_excess orders (risen prices asset d) asset) × IsSettled orders (risen prices asset d) asset
  settled_after_rise prices asset reach zero within move after = absurd (omega (arith, move.least))
  settled_after_rise prices asset reach (suc e) within move after =
      rw (risen_more prices asset e) at (settled_above parts some orders consistent prices asset (price_of prices asset +ℤ pos e) within (rise_before parts some orders consistent prices asset reach e move) (rw (risen_more prices asset e) after))

  -- a fall that ends at or above minus the slope bound settles the asset, with a low excess of -1 or less
  pub settled_after_fall : (prices : List ℤ) (asset reach d : ℕ) → asset < length prices → IsFall parts orders prices asset reach d
      → neg_ℤ (pos (parts * steepness orders asset)) ≤ℤ high_excess_in parts orders (fallen prices asset d) asset
      → (low_excess orders (fallen prices asset d) asset ≤ℤ negsuc 0) × IsSettled orders (fallen prices asset d) asset
  settled_after_fall prices asset reach zero within move after = absurd (omega (arith, move.least))
  settled_after_fall prices asset reach (suc e) within move after =
      settled_below parts some orders consistent prices asset (price_of prices asset -ℤ pos (suc e)) within (rw (fallen_more prices asset e) (fall_before parts some orders consistent prices asset reach e move)) after
