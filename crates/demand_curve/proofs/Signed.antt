-- Signed sums over a price gap: z is above c by d, less what it is below c.
use Rattle.std.proofs.Common.{◌≡◌, ℕ, ◌+◌, ◌*◌, ◌≤◌, ℤ, pos, ◌+ℤ◌, ◌-ℤ◌, ◌*ℤ◌, ◌≤ℤ◌, ap, arith}
use Rattle.std.proofs.Math.Nat.{mul-le-mul_left}
use Rattle.std.proofs.lemmas.Int.{ints}
use Rattle.demand_curve.specs.Numbers.{distance}
use Rattle.demand_curve.proofs.Distances.{distance_is}
use borrow.Author.Differences.{up, down}

-- a gain A * (z - c) - B against K times another, A' * (z - c) - B' + L
pub gains_at_most : (K A B A' B' L d below : ℕ) (z c : ℤ) → up z + down c + below ≡ down z + up c + d → A' * below ≡ 0 → A * d + K * B' ≤ K * (A' * d + L) + B → (pos A *ℤ z -ℤ pos B -ℤ pos A *ℤ c) ≤ℤ (pos K *ℤ (pos A' *ℤ z -ℤ pos B' -ℤ pos A' *ℤ c +ℤ pos L))
gains_at_most K A B A' B' L d below z c gap none h =
    let parts : up (pos A' *ℤ z -ℤ pos B' -ℤ pos A' *ℤ c +ℤ pos L) + A' * down z + B' + A' * up c ≡ down (pos A' *ℤ z -ℤ pos B' -ℤ pos A' *ℤ c +ℤ pos L) + A' * up z + A' * down c + L = omega (arith, ints) in
    omega (arith, ints, ap (λ y. K * y) parts, ap (λ y. A * y) gap, ap (λ y. K * A' * y) gap, ap (λ y. K * y) none, h)

-- a price and a limit, with the distance both ways
pub gap_is : (z c : ℤ) → up z + down c + distance c z ≡ down z + up c + distance z c
gap_is z c = omega (arith, distance_is z c, distance_is c z)

-- S times the gain A * (z - c) - B, in naturals
gain_sides : (S A B d below : ℕ) (z c : ℤ) → up z + down c + below ≡ down z + up c + d → up (pos S *ℤ (pos A *ℤ z -ℤ pos B -ℤ pos A *ℤ c)) + S * A * below + S * B ≡ down (pos S *ℤ (pos A *ℤ z -ℤ pos B -ℤ pos A *ℤ c)) + S * A * d
gain_sides S A B d below z c gap =
    let inner : up (pos A *ℤ z -ℤ pos B -ℤ pos A *ℤ c) + A * down z + B + A * up c ≡ down (pos A *ℤ z -ℤ pos B -ℤ pos A *ℤ c) + A * up z + A * down c = omega (arith, ints) in
    omega (arith, ints, ap (λ y. S * y) inner, ap (λ y. S * A * y) gap)

-- S times a gain is at most X
pub scaled_gain_at_most : (S A B X d below : ℕ) (z c : ℤ) → up z + down c + below ≡ down z + up c + d → S * A * d ≤ X + S * B → (pos S *ℤ (pos A *ℤ z -ℤ pos B -ℤ pos A *ℤ c)) ≤ℤ pos X
scaled_gain_at_most S A B X d below z c gap h = omega (arith, ints, gain_sides S A B d below z c gap, h)

-- S times a gain is X, if A is 0 or z is not below c
pub scaled_gain_is : (S A B X d below : ℕ) (z c : ℤ) → up z + down c + below ≡ down z + up c + d → A * below ≡ 0 → S * A * d ≡ X + S * B → pos S *ℤ (pos A *ℤ z -ℤ pos B -ℤ pos A *ℤ c) ≡ pos X
scaled_gain_is S A B X d below z c gap none h = omega (arith, ints, gain_sides S A B d below z c gap, ap (λ y. S * y) none, h)

-- a move from one price to another
pub moved_at_most : (X Y A : ℕ) (z from to : ℤ) → up z + down from + distance from z ≡ down z + up from + distance z from → up z + down to + distance to z ≡ down z + up to + distance z to → A * distance to z ≡ 0 → Y + A * distance z from ≤ X + A * distance z to → (pos Y +ℤ pos A *ℤ (to -ℤ from)) ≤ℤ pos X
moved_at_most X Y A z from to gap_from gap_to none h =
    let move : up (to -ℤ from) + down to + up from ≡ down (to -ℤ from) + up to + down from = omega (arith, ints) in
    omega (arith, ints, ap (λ y. A * y) move, ap (λ y. A * y) gap_from, ap (λ y. A * y) gap_to, none, h)

-- a move from one price to another, in parts k times as fine
pub moved_in_parts : (k X Y A : ℕ) (d : ℤ) → (pos Y +ℤ pos A *ℤ d) ≤ℤ pos X → (pos (k * Y) +ℤ pos (k * A) *ℤ d) ≤ℤ pos (k * X)
moved_in_parts k X Y A d h =
    let sides : Y + A * up d ≤ X + A * down d = omega (arith, ints, h) in
    omega (arith, ints, mul-le-mul_left k sides)
