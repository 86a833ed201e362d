use Rattle.std.proofs.Common.{◌≡◌, ℕ, suc, ◌+◌, ◌*◌, ◌≤◌, ℤ, pos, negsuc, ◌+ℤ◌, ◌*ℤ◌, ◌≤ℤ◌, ap, arith}
use Rattle.std.specs.Prelude.{neg_ℤ}
use Rattle.std.proofs.Math.Nat.{mul-le-mul_left}
use Rattle.std.proofs.lemmas.Int.{ints}
use borrow.Author.Differences.{up, down, product_is}
use Rattle.demand_curve.specs.Demand.{Terms, IsWithinLimits, span, scaled_demand, floor_rate, ceil_rate, floor_in, ceil_in}
use Rattle.demand_curve.proofs.RoundingLaws.{roundings_enclose_demand}
use Rattle.demand_curve.proofs.DemandLaws.{demand_moves_little}
use Rattle.flow_orders.specs.Excess.{low_part_in, high_part_in}
use Rattle.flow_orders.specs.WholeUnits.{low_part, high_part}
use Rattle.demand_curve.proofs.Parts.{parts_move_little, parts_enclose_demand}

-- a number times minus another
pub turned : (N m : ℕ) → pos N *ℤ neg_ℤ (pos m) ≡ neg_ℤ (pos (N * m))
turned N m =
    let none : up (neg_ℤ (pos m)) ≡ 0 = omega (arith, ints) in
    let all : down (neg_ℤ (pos m)) ≡ m = omega (arith, ints) in
    omega (arith, ints, product_is (pos N) (neg_ℤ (pos m)), ap (λ y. N * y) none, ap (λ y. N * y) all)

-- a product with a negative weight
pub sold_is : (n m : ℕ) → negsuc n *ℤ pos m ≡ neg_ℤ (pos (suc n * m))
sold_is n m = omega (arith, ints)

-- one grain of an asset's price moves an order's part of the excess by at most w * w / 256 units
pub part_step : (parts : ℕ) (w : ℤ) (t : Terms) → IsWithinLimits t → (c : ℤ) → (pos 256 *ℤ low_part_in parts w t c) ≤ℤ (pos 256 *ℤ high_part_in parts w t (c +ℤ w) +ℤ pos parts *ℤ (w *ℤ w))
part_step parts (pos n) t h c =
    omega (arith, ints, mul-le-mul_left n (parts_move_little parts t h c n))
part_step parts (negsuc n) t h c =
    let back : c +ℤ negsuc n +ℤ pos (suc n) ≡ c = omega (arith, ints) in
    let step = rw back at (parts_move_little parts t h (c +ℤ negsuc n) (suc n)) in
    omega (arith, ints, mul-le-mul_left (suc n) step)

-- the low part in parts is at least that in whole units
pub low_part-whole : (parts : ℕ) (w : ℤ) (t : Terms) → IsWithinLimits t → (c : ℤ) → (pos parts *ℤ low_part w t c) ≤ℤ low_part_in parts w t c
low_part-whole parts (pos n) t h c =
    omega (arith, ints, mul-le-mul_left n (parts_enclose_demand parts t h c).whole_floor)
low_part-whole parts (negsuc n) t h c =
    rw (turned parts (suc n * ceil_rate t c)) (omega (arith, ints, mul-le-mul_left (suc n) (parts_enclose_demand parts t h c).whole_ceil))

pub high_part-whole : (parts : ℕ) (w : ℤ) (t : Terms) → IsWithinLimits t → (c : ℤ) → high_part_in parts w t c ≤ℤ (pos parts *ℤ high_part w t c)
high_part-whole parts (pos n) t h c =
    omega (arith, ints, mul-le-mul_left n (parts_enclose_demand parts t h c).whole_ceil)
high_part-whole parts (negsuc n) t h c =
    rw (turned parts (suc n * floor_rate t c)) (omega (arith, ints, mul-le-mul_left (suc n) (parts_enclose_demand parts t h c).whole_floor))

-- the low part in parts is at most the exact demand times the weight, in parts of 1/N of a unit
pub low_part-below : (parts : ℕ) (w : ℤ) (t : Terms) → IsWithinLimits t → (c : ℤ) (k N : ℕ) → k * span t ≡ N → (pos N *ℤ low_part_in parts w t c) ≤ℤ (pos parts *ℤ (w *ℤ pos (k * scaled_demand t c)))
low_part-below parts (pos n) t h c k N shares =
    omega (arith, ints, ap (λ y. n * floor_in parts t c * y) shares, mul-le-mul_left (n * k) (parts_enclose_demand parts t h c).floor_below)
low_part-below parts (negsuc n) t h c k N shares =
    let most : parts * (suc n * k * scaled_demand t c) ≤ N * (suc n * ceil_in parts t c) = omega (arith, mul-le-mul_left (suc n * k) (parts_enclose_demand parts t h c).ceil_above, ap (λ y. suc n * ceil_in parts t c * y) shares) in
    rw (turned N (suc n * ceil_in parts t c), sold_is n (k * scaled_demand t c), turned parts (suc n * (k * scaled_demand t c))) (omega (arith, ints, most))

pub high_part-above : (parts : ℕ) (w : ℤ) (t : Terms) → IsWithinLimits t → (c : ℤ) (k N : ℕ) → k * span t ≡ N → (pos parts *ℤ (w *ℤ pos (k * scaled_demand t c))) ≤ℤ (pos N *ℤ high_part_in parts w t c)
high_part-above parts (pos n) t h c k N shares =
    omega (arith, ints, ap (λ y. n * ceil_in parts t c * y) shares, mul-le-mul_left (n * k) (parts_enclose_demand parts t h c).ceil_above)
high_part-above parts (negsuc n) t h c k N shares =
    let most : N * (suc n * floor_in parts t c) ≤ parts * (suc n * k * scaled_demand t c) = omega (arith, mul-le-mul_left (suc n * k) (parts_enclose_demand parts t h c).floor_below, ap (λ y. suc n * floor_in parts t c * y) shares) in
    rw (turned N (suc n * floor_in parts t c), sold_is n (k * scaled_demand t c), turned parts (suc n * (k * scaled_demand t c))) (omega (arith, ints, most))

-- the low part is at most the exact demand times the weight, in parts of 1/N of a unit
pub low_below : (w : ℤ) (t : Terms) → IsWithinLimits t → (c : ℤ) (k N : ℕ) → k * span t ≡ N → (pos N *ℤ low_part w t c) ≤ℤ (w *ℤ pos (k * scaled_demand t c))
low_below (pos n) t h c k N parts =
    omega (arith, ints, ap (λ y. n * floor_rate t c * y) parts, mul-le-mul_left (n * k) (roundings_enclose_demand t h c).floor_below)
low_below (negsuc n) t h c k N parts =
    let most : suc n * k * scaled_demand t c ≤ N * (suc n * ceil_rate t c) = omega (arith, mul-le-mul_left (suc n * k) (roundings_enclose_demand t h c).ceil_above, ap (λ y. suc n * ceil_rate t c * y) parts) in
    let left : pos N *ℤ neg_ℤ (pos (suc n * ceil_rate t c)) ≡ neg_ℤ (pos (N * (suc n * ceil_rate t c))) = turned N (suc n * ceil_rate t c) in
    rw left (omega (arith, ints, most))

-- one grain of an asset's price moves the exact demand times the weight by at most w * w / 256 units
pub true_step : (w : ℤ) (t : Terms) → IsWithinLimits t → (c : ℤ) (k N : ℕ) → k * span t ≡ N → (pos 256 *ℤ (w *ℤ pos (k * scaled_demand t c))) ≤ℤ (pos 256 *ℤ (w *ℤ pos (k * scaled_demand t (c +ℤ w))) +ℤ pos N *ℤ (w *ℤ w))
true_step (pos n) t h c k N parts =
    let step = demand_moves_little t h c n in
    let all : 256 * n * k * scaled_demand t c ≤ 256 * n * k * scaled_demand t (c +ℤ pos n) + N * n * n = omega (arith, mul-le-mul_left (n * k) step, ap (λ y. n * n * y) parts) in
    omega (arith, ints, all)
true_step (negsuc n) t h c k N parts =
    let back : c +ℤ negsuc n +ℤ pos (suc n) ≡ c = omega (arith, ints) in
    let step = rw back at (demand_moves_little t h (c +ℤ negsuc n) (suc n)) in
    let all : 256 * suc n * k * scaled_demand t (c +ℤ negsuc n) ≤ 256 * suc n * k * scaled_demand t c + N * suc n * suc n = omega (arith, mul-le-mul_left (suc n * k) step, ap (λ y. suc n * suc n * y) parts) in
    omega (arith, ints, all)
