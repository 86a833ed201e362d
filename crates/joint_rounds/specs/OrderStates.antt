-- The state of an order in a step, given its share of its batch maximum (`room`), in parts of 2^32. A fraction of a step has the denominator
-- t (1 - t), with t the share, so what the share lacks and the slope are quotients by one number.
use Rattle.std.specs.Prelude.{ℕ, ◌+◌, ◌-◌, ◌*◌, ◌/◌, ◌^◌, ◌<◌, ◌≤◌, ℤ, pos, neg_ℤ, ◌+ℤ◌, ◌-ℤ◌, ◌*ℤ◌, int_div, unsigned_abs, List}
use Rattle.std.specs.Int.{int_min, int_max, div_ceil}
use Rattle.demand_curve.specs.Numbers.{or_zero}
use Rattle.demand_curve.specs.Demand.{Terms, most_rate}
use Rattle.flow_orders.specs.Orders.{Order, terms_of}
use Rattle.flow_orders.specs.Excess.{price_for}
use Rattle.joint_prices.specs.Numbers.{scaled}
use Rattle.joint_prices.specs.OrderStates.{one, IsShare, line}

-- After the barrier's parameter was halved s times, money is counted in 2^c parts of 1/256 of a grain: c falls from 18 to 0.
abbrev pub coarseness : ℕ → ℕ
coarseness s = 18 - s

-- grains as money, and money as grains, rounded towards 0
unfoldable pub money : ℕ → ℤ → ℤ
money s x = scaled (x *ℤ pos (2 ^ 8)) (pos (coarseness s))

unfoldable pub grains : ℕ → ℤ → ℤ
grains s x = scaled (x *ℤ pos (2 ^ coarseness s)) (pos 8)

-- the barrier's parameter, in money: 2^40 grains, halved s times
unfoldable pub tau : ℕ → ℕ
tau s = 2 ^ 48 / 2 ^ (s + coarseness s)

-- by how much the price falls while the order's demand rises from 0 to its batch maximum, in money
unfoldable pub line_at : ℕ → Terms → ℕ
line_at s c = line c / 2 ^ (4 + coarseness s)

-- how far the portfolio's price is above that at which the order demands the share t, in money: the gradient without the barrier
unfoldable pub dear : ℕ → Terms → ℤ → ℕ → ℤ
dear s c price t = pos (line_at s c * t / one) -ℤ money s (c.high -ℤ price)

-- t (1 - t), in parts of 2^32, and at least 1
unfoldable pub bend : ℕ → ℕ
bend t = t * (one - t) / one + 1

-- The order's diagonal in the Newton system, times t (1 - t): l is its line, v the gradient without the barrier, and m the barrier's parameter.
-- The positive part of v and m estimate the multiplier of the bound 0, and its negative part and m that of the batch maximum.
unfoldable pub stiffness : ℕ → ℕ → ℤ → ℕ → ℕ
stiffness m l v t = (l * bend t + (or_zero v + m) * (one - t) + (or_zero (neg_ℤ v) + m) * t) / one + 1

-- by how much the share is below that of a whole Newton step at these prices; k is the stiffness
unfoldable pub lack : ℕ → ℤ → ℕ → ℕ → ℤ
lack m v t k = int_div (pos m *ℤ (pos one -ℤ pos (2 * t)) -ℤ v *ℤ pos (bend t)) (pos k)

-- how many units of its portfolio more the order buys to first order for each unit of money that the price falls, in 1/2^70 of a unit
unfoldable pub slope : ℕ → ℕ → ℕ → ℕ
slope room t k = room * bend t * 2 ^ 38 / k

-- an order in a step: its batch maximum, its share of it, and there what it lacks, the stiffness and the slope
pub record OrderState : Type 0 where
  pub room : ℕ
  pub share : ℕ
  pub lack : ℤ
  pub stiffness : ℕ
  pub slope : ℕ

-- the state of an order of these terms, with the gradient v
abbrev pub state_with : ℕ → Terms → ℤ → ℕ → OrderState
state_with s c v t =
    let k = stiffness (tau s) (line_at s c) v t in
    record { room = c.room; share = t; lack = lack (tau s) v t k; stiffness = k; slope = slope c.room t k }

-- the state of an order, at prices and a share
abbrev pub order_state : ℕ → List ℤ → Order → ℕ → OrderState
order_state s prices o t = state_with s (terms_of o) (dear s (terms_of o) (price_for prices o) t) t

-- how many units of its portfolio the order buys after a whole Newton step at these prices, in 1/2^32 of a unit
abbrev pub aim : OrderState → ℤ
aim z = pos z.room *ℤ (pos z.share +ℤ z.lack)

-- the share after a whole Newton step if the price moves by an amount, in money; it may be out of its bounds
unfoldable pub target : ℤ → OrderState → ℤ
target amount z = pos z.share +ℤ z.lack -ℤ int_div (pos (bend z.share) *ℤ amount) (pos z.stiffness)

-- the share after the price has moved by an amount: the Newton step, at most half of the way to either bound
unfoldable pub next : ℤ → OrderState → ℕ
next amount z = or_zero (int_max (pos (div_ceil z.share 2)) (int_min (target amount z) (pos (one - div_ceil (one - z.share) 2))))

-- the ranges of the state of every order
pub record IsOrderState (z : OrderState) : Type 0 where
  pub room : z.room ≤ most_rate
  pub share : IsShare z.share
  pub lack : unsigned_abs z.lack ≤ 2 ^ 34
  pub some : 1 ≤ z.stiffness
  pub stiffness : z.stiffness < 2 ^ 88
  pub slope : z.slope ≤ 2 ^ 62
