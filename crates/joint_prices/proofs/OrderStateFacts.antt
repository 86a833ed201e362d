-- Facts on the states of orders.
use Rattle.std.proofs.Common.{◌≡◌, ℕ, ◌+◌, ◌-◌, ◌*◌, ◌^◌, ◌≤◌, ℤ, pos, ◌+ℤ◌, ◌-ℤ◌, ◌*ℤ◌, int_div, refl, arith}
use Rattle.std.specs.Prelude.{neg_ℤ, ◌/◌}
use Rattle.std.specs.Int.{int_min, int_max, div_ceil}
use Rattle.std.proofs.Math.Nat.{mul-le-mul, mul-le-mul_left, div-mul-le_self, div-le_of_le-mul}
use Rattle.demand_curve.specs.Numbers.{or_zero}
use Rattle.demand_curve.specs.Demand.{Terms, span, IsWithinLimits}
use Rattle.demand_curve.proofs.Limits.{span_least, span_most}
use Rattle.std.proofs.lemmas.Nat.{le-div}
use Rattle.joint_prices.specs.Numbers.{within}
use Rattle.joint_prices.specs.OrderStates.{one, line, dear, stiffness, lack, part, target, slope, aim, next, OrderState, IsOrderState}

pub line_is : (c : Terms) (room wide rate : ℕ) → room ≡ c.room → wide ≡ span c → rate ≡ c.rate → room * wide * 4096 / rate ≡ line c
unfolding line
line_is c room wide rate room_is wide_is rate_is = rw (room_is, wide_is, rate_is) refl

pub dear_is : (c : Terms) (price v a : ℤ) (l t : ℕ) → l ≡ line c → v ≡ pos (l * t / one) → a ≡ pos (2 ^ 12) *ℤ (c.high -ℤ price) → v -ℤ a ≡ dear c price t
unfolding dear
dear_is c price v a l t l_is v_is a_is = rw (v_is, a_is, l_is) refl

pub stiff_is : (tau l t up down : ℕ) (v : ℤ) → up ≡ (or_zero v + tau) * one / t → down ≡ (or_zero (neg_ℤ v) + tau) * one / (one - t) → l + up + down ≡ stiffness tau l v t
unfolding stiffness
stiff_is tau l t up down v up_is down_is = rw (up_is, down_is) refl

pub lack_is : (tau t : ℕ) (v a b : ℤ) → a ≡ pos (tau * one / t) → b ≡ pos (tau * one / (one - t)) → a -ℤ b -ℤ v ≡ lack tau v t
unfolding lack
lack_is tau t v a b a_is b_is = rw (a_is, b_is) refl

pub part_is : (x q r : ℤ) (k : ℕ) → q ≡ int_div (x *ℤ pos one) (pos k) → r ≡ within 60 q → r ≡ part x k
unfolding part
part_is x q r k q_is r_is = rw (r_is, q_is) refl

pub target_is : (amount t p : ℤ) (s : OrderState) → t ≡ pos s.share → p ≡ part (s.lack -ℤ pos (2 ^ 12) *ℤ amount) s.stiffness → t +ℤ p ≡ target amount s
unfolding target
target_is amount t p s t_is p_is = rw (t_is, p_is) refl

pub slope_is : (s : OrderState) (r k : ℕ) → r ≡ s.room → k ≡ s.stiffness → r * (2 ^ 94 / k) ≡ slope s
unfolding slope
slope_is s r k r_is k_is = rw (r_is, k_is) refl

pub slope_small : (s : OrderState) → IsOrderState s → slope s ≤ 2 ^ 74
unfolding slope
slope_small s is =
    let q = 2 ^ 94 / s.stiffness in
    let down : q * s.stiffness ≤ 2 ^ 94 = div-mul-le_self (2 ^ 94) s.stiffness in
    let wide : q * (s.room * 2 ^ 20) ≤ q * s.stiffness = mul-le-mul_left q is.stiffness in
    omega (arith, down, wide)

pub aim_is : (s : OrderState) (r t : ℤ) → r ≡ pos s.room → t ≡ target (pos 0) s → r *ℤ t ≡ aim s
unfolding aim
aim_is s r t r_is t_is = rw (r_is, t_is) refl

pub next_is : (amount z : ℤ) (s : OrderState) (low high : ℕ) → z ≡ target amount s → low ≡ div_ceil s.share 2 → high ≡ one - div_ceil (one - s.share) 2
    → or_zero (int_max (pos low) (int_min z (pos high))) ≡ next amount s
unfolding next
next_is amount z s low high z_is low_is high_is = rw (z_is, low_is, high_is) refl

-- a line has a least value by the batch maximum, and a greatest one
pub line_least : (c : Terms) → IsWithinLimits c → c.room * 2 ^ 20 ≤ line c
unfolding line
line_least c is =
    let wide = span_least c is in
    let inner : 2 ^ 20 * c.rate ≤ span c * 2 ^ 12 = omega (arith, wide, is.rate_most) in
    le-div (c.room * 2 ^ 20) (c.room * span c * 2 ^ 12) c.rate (omega (arith, is.room_least, is.room_most)) (omega (arith, mul-le-mul_left c.room inner))

pub line_most : (c : Terms) → IsWithinLimits c → line c ≤ 2 ^ 73
unfolding line
line_most c is =
    let wide = span_most c is in
    let product : c.room * (span c * 2 ^ 12) ≤ c.rate * 2 ^ 73 = mul-le-mul is.room_most (omega (arith, wide)) in
    div-le_of_le-mul c.rate (omega (arith, product))
