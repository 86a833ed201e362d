-- The state of an order in a Newton step, given its share of its batch maximum (`room`). Shares are in parts of 2^32, and prices that are
-- compared with the order's line in 1/4096 of a grain.
use Rattle.std.specs.Prelude.{ℕ, ◌+◌, ◌-◌, ◌*◌, ◌/◌, ◌^◌, ◌<◌, ◌≤◌, ℤ, pos, neg_ℤ, ◌+ℤ◌, ◌-ℤ◌, ◌*ℤ◌, int_div, unsigned_abs, List}
use Rattle.std.specs.Int.{int_min, int_max, div_ceil}
use Rattle.demand_curve.specs.Numbers.{or_zero}
use Rattle.demand_curve.specs.Demand.{Terms, span, most_rate}
use Rattle.flow_orders.specs.Orders.{Order, terms_of}
use Rattle.flow_orders.specs.Excess.{price_for}
use Rattle.joint_prices.specs.Numbers.{within}

-- a price within 2^61 grains of 0, which leaves the moves of a search as much again
abbrev pub IsNear : ℤ → Type 0
IsNear price = unsigned_abs price ≤ 2 ^ 61

-- the batch maximum, as a share
abbrev pub one : ℕ
one = 2 ^ 32

-- a share strictly between its bounds, 0 and the batch maximum
abbrev pub IsShare : ℕ → Type 0
IsShare t = (1 ≤ t) × (t < one)

-- by how much the price falls while the order's demand rises from 0 to its batch maximum, in 1/4096 of a grain
unfoldable pub line : Terms → ℕ
line c = c.room * span c * 2 ^ 12 / c.rate

-- how far the portfolio's price is above that at which the order demands the share t, in 1/4096 of a grain: the gradient without the barrier
unfoldable pub dear : Terms → ℤ → ℕ → ℤ
dear c price t = pos (line c * t / one) -ℤ pos (2 ^ 12) *ℤ (c.high -ℤ price)

-- The order's diagonal in the Newton system: the slope l of its line, and that of the barrier at the share t. v is the gradient without the
-- barrier, whose positive part and tau estimate the multiplier of the bound 0, and whose negative part and tau that of the batch maximum.
-- tau is the barrier's parameter, which falls from step to step.
unfoldable pub stiffness : ℕ → ℕ → ℤ → ℕ → ℕ
stiffness tau l v t = l + (or_zero v + tau) * one / t + (or_zero (neg_ℤ v) + tau) * one / (one - t)

-- the residual of the order's optimality condition, which the step brings to 0: the barrier's forces from the two bounds, less the gradient v
unfoldable pub lack : ℕ → ℤ → ℕ → ℤ
lack tau v t = pos (tau * one / t) -ℤ pos (tau * one / (one - t)) -ℤ v

-- an order in a step: its batch maximum, its share of it, and there its diagonal in the Newton system and its residual
pub record OrderState : Type 0 where
  pub room : ℕ
  pub share : ℕ
  pub stiffness : ℕ
  pub lack : ℤ

-- the state of an order of these terms, at a price of its portfolio and a share
abbrev pub state_at : ℕ → Terms → ℤ → ℕ → OrderState
state_at tau c price t = record { room = c.room; share = t; stiffness = stiffness tau (line c) (dear c price t) t; lack = lack tau (dear c price t) t }

-- the state of an order, at prices and a share
abbrev pub order_state : ℕ → List ℤ → Order → ℕ → OrderState
order_state tau prices o t = state_at tau (terms_of o) (price_for prices o) t

-- x over k as a share, cut to -2^60 .. 2^60
unfoldable pub part : ℤ → ℕ → ℤ
part x k = within 60 (int_div (x *ℤ pos one) (pos k))

-- the share after a whole Newton step if the price moves by an amount, in grains; it may be out of its bounds
unfoldable pub target : ℤ → OrderState → ℤ
target amount s = pos s.share +ℤ part (s.lack -ℤ pos (2 ^ 12) *ℤ amount) s.stiffness

-- how many units of its portfolio more the order buys to first order for each grain that the price falls, in 1/2^82 of a unit
unfoldable pub slope : OrderState → ℕ
slope s = s.room * (2 ^ 94 / s.stiffness)

-- how many units of its portfolio the order buys after a whole Newton step at these prices, in 1/2^32 of a unit
unfoldable pub aim : OrderState → ℤ
aim s = pos s.room *ℤ target (pos 0) s

-- the share after the price has moved by an amount: the Newton step, at most half of the way to either bound
unfoldable pub next : ℤ → OrderState → ℕ
next amount s = or_zero (int_max (pos (div_ceil s.share 2)) (int_min (target amount s) (pos (one - div_ceil (one - s.share) 2))))

-- the ranges of the state of every order
pub record IsOrderState (s : OrderState) : Type 0 where
  pub some : 1 ≤ s.room
  pub room : s.room ≤ most_rate
  pub share : IsShare s.share
  pub stiffness : s.room * 2 ^ 20 ≤ s.stiffness
  pub most : s.stiffness < 2 ^ 126
  pub lack : unsigned_abs s.lack ≤ 2 ^ 93
