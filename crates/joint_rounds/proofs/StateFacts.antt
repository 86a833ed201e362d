-- Facts on the states of orders.
use Rattle.std.proofs.Common.{◌≡◌, ℕ, ◌+◌, ◌-◌, ◌*◌, ◌^◌, ◌≤◌, ◌<◌, ℤ, pos, negsuc, ◌+ℤ◌, ◌-ℤ◌, ◌*ℤ◌, int_div, refl, sym, ⊎_elim, arith}
use Rattle.std.specs.Prelude.{neg_ℤ, unsigned_abs, ◌/◌}
use Rattle.std.specs.Int.{int_min, int_max, div_ceil}
use Rattle.std.proofs.Math.Nat.{mul-le-mul, mul-le-mul_left, div-mul-le_self, div-le_of_le-mul, div-eq_of_lt, lt-div-mul-add, pow-le-pow_right}
use Rattle.std.proofs.lemmas.Bool.{cases_lt}
use Rattle.std.proofs.lemmas.Int.{ints}
use Rattle.list_sums.proofs.Products.{unsigned_abs-mul_le}
use Rattle.demand_curve.specs.Numbers.{or_zero}
use Rattle.demand_curve.specs.Demand.{Terms}
use Rattle.joint_prices.specs.Numbers.{scaled}
use Rattle.joint_prices.proofs.NumberFacts.{quot_le, quot_size}
use Rattle.joint_prices.specs.OrderStates.{one, IsShare, line as line_in}
use Rattle.joint_rounds.specs.OrderStates.{coarseness, money, grains, tau, line_at, dear, bend, stiffness, lack, slope, target, next, OrderState}

-- ---- the parts of the definitions, as the code makes them

pub money_is : (s : ℕ) (x y k r : ℤ) → y ≡ x *ℤ pos (2 ^ 8) → k ≡ pos (coarseness s) → r ≡ scaled y k → r ≡ money s x
unfolding money
money_is s x y k r y_is k_is r_is = rw (r_is, y_is, k_is) refl

pub grains_is : (s : ℕ) (x y r : ℤ) → y ≡ x *ℤ pos (2 ^ coarseness s) → r ≡ scaled y (pos 8) → r ≡ grains s x
unfolding grains
grains_is s x y r y_is r_is = rw (r_is, y_is) refl

-- what is shifted down isn't greater
pub scaled_small : (x k : ℤ) (n : ℕ) → k ≡ pos n → unsigned_abs (scaled x k) ≤ unsigned_abs x
unfolding scaled
scaled_small x k n k_is = rw k_is (quot_le x (2 ^ n))

pub tau_none : (s k : ℕ) → k ≡ s + coarseness s → 48 < k → 0 ≡ tau s
unfolding tau
tau_none s k k_is past = rw (← k_is) (sym (div-eq_of_lt (omega (arith, past, pow-le-pow_right {n = 2} (omega arith) past))))

pub tau_some : (s k : ℕ) → k ≡ s + coarseness s → 2 ^ 48 / 2 ^ k ≡ tau s
unfolding tau
tau_some s k k_is = rw k_is refl

pub tau_most : (s : ℕ) → tau s ≤ 2 ^ 30
unfolding tau
tau_most s =
    let far : 18 ≤ s + coarseness s = omega arith in
    div-le_of_le-mul (2 ^ (s + coarseness s)) (omega (arith, pow-le-pow_right {n = 2} (omega arith) far))

-- the barrier's parameter, before money is at its finest
pub tau_first : (s : ℕ) → s ≤ 18 → tau s ≡ 2 ^ 30
unfolding tau
tau_first s early =
    let at : s + coarseness s ≡ 18 = omega (arith, early) in
    rw at refl

pub line_at_is : (s : ℕ) (c : Terms) (l k : ℕ) → l ≡ line_in c → k ≡ coarseness s → l / 2 ^ (4 + k) ≡ line_at s c
unfolding line_at
line_at_is s c l k l_is k_is = rw (l_is, k_is) refl

pub shifted_most : (l k : ℕ) → l ≤ 2 ^ 73 → l / 2 ^ (4 + k) ≤ 2 ^ 69
shifted_most l k most =
    let least : 4 ≤ 4 + k = omega arith in
    div-le_of_le-mul (2 ^ (4 + k)) (omega (arith, most, pow-le-pow_right {n = 2} (omega arith) least))

-- the line, once money is at its finest
pub line_at_last : (s : ℕ) (c : Terms) → 18 ≤ s → line_at s c ≡ line_in c / 2 ^ 4
unfolding line_at
line_at_last s c late =
    let at : 4 + coarseness s ≡ 4 = omega (arith, late) in
    rw at refl

pub dear_is : (s : ℕ) (c : Terms) (price v a : ℤ) (l t : ℕ) → l ≡ line_at s c → v ≡ pos (l * t / one) → a ≡ money s (c.high -ℤ price) → v -ℤ a ≡ dear s c price t
unfolding dear
dear_is s c price v a l t l_is v_is a_is = rw (v_is, a_is, l_is) refl

pub bend_is : (t a b : ℕ) → a ≡ t → b ≡ t → a * (one - b) / one + 1 ≡ bend t
unfolding bend
bend_is t a b a_is b_is = rw (a_is, b_is) refl

pub stiff_is : (m l t : ℕ) (v : ℤ) (bent up down : ℕ) → bent ≡ l * bend t → up ≡ (or_zero v + m) * (one - t) → down ≡ (or_zero (neg_ℤ v) + m) * t → (bent + up + down) / one + 1 ≡ stiffness m l v t
unfolding stiffness
stiff_is m l t v bent up down bent_is up_is down_is = rw (bent_is, up_is, down_is) refl

pub lack_is : (m t k : ℕ) (v x r : ℤ) → x ≡ pos m *ℤ (pos one -ℤ pos (2 * t)) -ℤ v *ℤ pos (bend t) → r ≡ int_div x (pos k) → r ≡ lack m v t k
unfolding lack
lack_is m t k v x r x_is r_is = rw (r_is, x_is) refl

pub slope_is : (room t k a b : ℕ) → a ≡ room → b ≡ bend t → a * b * 2 ^ 38 / k ≡ slope room t k
unfolding slope
slope_is room t k a b a_is b_is = rw (a_is, b_is) refl

pub target_is : (amount a b q x : ℤ) (z : OrderState) → a ≡ pos z.share → b ≡ z.lack → x ≡ pos (bend z.share) *ℤ amount → q ≡ int_div x (pos z.stiffness) → a +ℤ b -ℤ q ≡ target amount z
unfolding target
target_is amount a b q x z a_is b_is x_is q_is = rw (a_is, b_is, q_is, x_is) refl

pub next_is : (amount z : ℤ) (s : OrderState) (low high : ℕ) → z ≡ target amount s → low ≡ div_ceil s.share 2 → high ≡ one - div_ceil (one - s.share) 2
    → or_zero (int_max (pos low) (int_min z (pos high))) ≡ next amount s
unfolding next
next_is amount z s low high z_is low_is high_is = rw (z_is, low_is, high_is) refl

-- ---- bounds

half_product : (a d : ℕ) → a + d ≡ 2 ^ 31 → a * (2 ^ 31 + d) ≤ 2 ^ 62
half_product a d sum =
    let small : a ≤ 2 ^ 31 = omega (arith, sum) in
    omega (arith, sum, mul-le-mul_left d small)

-- a product of two parts of 2^32 is greatest at the half
pub product_most : (a b : ℕ) → a + b ≡ 2 ^ 32 → a * b ≤ 2 ^ 62
product_most a b sum =
    ⊎_elim
    (λ (low : a < 2 ^ 31).
    let d = 2 ^ 31 - a in
    let b_is : b ≡ 2 ^ 31 + (2 ^ 31 - a) = omega (arith, sum, low) in
    rw b_is (half_product a (2 ^ 31 - a) (omega (arith, low))))
    (λ (high : 2 ^ 31 ≤ a).
    let a_is : a ≡ 2 ^ 31 + (2 ^ 31 - b) = omega (arith, sum, high) in
    let commuted : b * (2 ^ 31 + (2 ^ 31 - b)) ≤ 2 ^ 62 = half_product b (2 ^ 31 - b) (omega (arith, sum, high)) in
    omega (arith, rw (← a_is) at commuted))
    (cases_lt a (2 ^ 31))

pub bend_most : (t : ℕ) → t ≤ one → bend t ≤ 2 ^ 30 + 1
unfolding bend
bend_most t inside =
    let most : t * (one - t) ≤ 2 ^ 62 = product_most t (one - t) (omega (arith, inside)) in
    let over : t * (one - t) / one ≤ 2 ^ 30 = div-le_of_le-mul one (omega (arith, most)) in
    omega (arith, over)

-- what is pushed against a bound is at most the stiffness, times t (1 - t)
bent_small : (a t y k : ℕ) → t ≤ one → 1 ≤ y → a * y ≤ one * k → a * (t * y / one + 1) ≤ 2 * one * k
bent_small a t y k inside some pushed =
    let q = t * y / one in
    let down : q * one ≤ t * y = div-mul-le_self (t * y) one in
    let first : a * (q * one) ≤ a * (t * y) = mul-le-mul_left a down in
    let second : t * (a * y) ≤ t * (one * k) = mul-le-mul_left t pushed in
    let third : k * t ≤ k * one = mul-le-mul_left k inside in
    let own : a * 1 ≤ a * y = mul-le-mul_left a some in
    let whole : a * q ≤ one * k = omega (arith, first, second, third) in
    omega (arith, whole, own, pushed)

-- the sum that makes the stiffness
total : ℕ → ℕ → ℤ → ℕ → ℕ
total m l v t = l * bend t + (or_zero v + m) * (one - t) + (or_zero (neg_ℤ v) + m) * t

total_below : (m l : ℕ) (v : ℤ) (t k : ℕ) → k ≡ stiffness m l v t → total m l v t < one * k
unfolding stiffness total
total_below m l v t k k_is =
    let below : total m l v t < total m l v t / one * one + one = lt-div-mul-add {a = total m l v t} {b = one} (omega arith) in
    rw k_is (omega (arith, below))

tau_below : (m l : ℕ) (v : ℤ) (t k : ℕ) → t ≤ one → k ≡ stiffness m l v t → m < k
unfolding total
tau_below m l v t k inside k_is =
    let below = total_below m l v t k k_is in
    let y = one - t in
    let whole : t + y ≡ one = omega (arith, inside) in
    let split : m * (t + y) ≡ m * one = rw whole refl in
    omega (arith, below, split)

line_below : (m l : ℕ) (v : ℤ) (t k : ℕ) → k ≡ stiffness m l v t → l * bend t < one * k
unfolding total
line_below m l v t k k_is = omega (arith, total_below m l v t k k_is)

gradient_small : (m l : ℕ) (v : ℤ) (t k : ℕ) → IsShare t → k ≡ stiffness m l v t → unsigned_abs v * bend t ≤ 2 * one * k
unfolding total bend
gradient_small m l (pos n) t k is k_is =
    let below = total_below m l (pos n) t k k_is in
    bent_small n t (one - t) k (omega (arith, is.1)) (omega (arith, is.1)) (omega (arith, below))
gradient_small m l (negsuc n) t k is k_is =
    let below = total_below m l (negsuc n) t k k_is in
    let y = one - t in
    let turned : (n + 1) * (y * t / one + 1) ≤ 2 * one * k = bent_small (n + 1) y t k (omega arith) is.0 (omega (arith, below)) in
    let same : t * y ≡ y * t = omega arith in
    rw same (omega (arith, turned))

pub lack_small : (m l : ℕ) (v : ℤ) (t k : ℕ) → IsShare t → k ≡ stiffness m l v t → unsigned_abs (lack m v t k) ≤ 2 ^ 34
unfolding lack
lack_small m l v t k is k_is =
    let slant = pos one -ℤ pos (2 * t) in
    let bent = v *ℤ pos (bend t) in
    let near : unsigned_abs slant ≤ one = omega (arith, ints, is.1) in
    let first : unsigned_abs (pos m *ℤ slant) ≤ m * one = unsigned_abs-mul_le (pos m) slant m one (omega arith) near in
    let second : unsigned_abs bent ≤ unsigned_abs v * bend t = unsigned_abs-mul_le v (pos (bend t)) (unsigned_abs v) (bend t) (omega arith) (omega arith) in
    let sum : unsigned_abs (pos m *ℤ slant -ℤ bent) ≤ unsigned_abs (pos m *ℤ slant) + unsigned_abs bent = omega (arith, ints) in
    let low = tau_below m l v t k (omega (arith, is.1)) k_is in
    let steep = gradient_small m l v t k is k_is in
    rw (quot_size (pos m *ℤ slant -ℤ bent) k) (div-le_of_le-mul k (omega (arith, first, second, sum, low, steep)))

-- no slope is too steep: money is coarse as long as the barrier is below no stiffness, and fine enough for each line later
pub steep_most : (s : ℕ) (c : Terms) (v : ℤ) (t k room : ℕ) → t ≤ one → room ≤ 2 ^ 24 → room * 2 ^ 20 ≤ line_in c → k ≡ stiffness (tau s) (line_at s c) v t → room * bend t ≤ 2 ^ 24 * k
steep_most s c v t k room inside small least k_is =
    ⊎_elim
    (λ (early : s < 18).
    let low = tau_below (tau s) (line_at s c) v t k inside k_is in
    let barrier = tau_first s (omega (arith, early)) in
    let flat : bend t ≤ k = omega (arith, low, barrier, bend_most t inside) in
    mul-le-mul small flat)
    (λ (late : 18 ≤ s).
    let below = line_below (tau s) (line_at s c) v t k k_is in
    let fine = line_at_last s c late in
    let long : room * 2 ^ 16 ≤ line_at s c = rw fine (omega (arith, least)) in
    let product : bend t * (room * 2 ^ 16) ≤ bend t * line_at s c = mul-le-mul_left (bend t) long in
    omega (arith, product, below))
    (cases_lt s 18)

pub slope_most : (room t k : ℕ) → room * bend t ≤ 2 ^ 24 * k → slope room t k ≤ 2 ^ 62
unfolding slope
slope_most room t k steep = div-le_of_le-mul k (omega (arith, steep))

-- the product of a number with a power of 2
pub lifted_fits : (x p : ℤ) (k : ℕ) → unsigned_abs x ≤ 2 ^ 62 → p ≡ pos (2 ^ k) → k ≤ 18 → unsigned_abs x * unsigned_abs p ≤ 2 ^ 80
lifted_fits x p k small p_is few =
    let most : unsigned_abs p ≤ 2 ^ 18 = rw p_is (pow-le-pow_right {n = 2} (omega arith) few) in
    omega (arith, mul-le-mul small most)

pub grains_small : (x : ℤ) → unsigned_abs x ≤ 2 ^ 80 → unsigned_abs (scaled x (pos 8)) ≤ 2 ^ 72
unfolding scaled
grains_small x small = rw (quot_size x (2 ^ 8)) (div-le_of_le-mul (2 ^ 8) (omega (arith, small)))
