-- Joint prices of large books: the steps of an interior point method, whose systems are solved by rounds or by elimination.
use Rattle.std.specs.Prelude.{ℕ, zero, suc, ◌+◌, ◌^◌, nat_le, if◌then◌else◌, ℤ, ◌+ℤ◌, Bool, true, List, length, map}
use Rattle.flow_orders.specs.Orders.{Order}
use Rattle.flow_orders.specs.Excess.{price_for}
use Rattle.joint_prices.specs.Numbers.{within}
use Rattle.joint_prices.specs.Steps.{zip_with}
use Rattle.joint_rounds.specs.OrderStates.{OrderState, order_state, grains, next}
use Rattle.joint_rounds.specs.Rounds.{by_rounds}
use Rattle.joint_rounds.specs.Elimination.{by_elimination}

-- the state of each order, at prices and the orders' shares, after the barrier's parameter was halved s times
abbrev pub order_states : ℕ → List ℤ → List Order → List ℕ → List OrderState
order_states s prices os ts = zip_with (order_state s prices) os ts

-- the prices after their moves, each cut to -2^61 .. 2^61
abbrev pub priced : ℕ → List ℤ → List ℤ → List ℤ
priced s prices by = zip_with (λ p d. within 61 (p +ℤ grains s d)) prices by

-- the shares after their Newton steps, by the prices' moves
abbrev pub shared : List ℤ → List Order → List OrderState → List ℕ
shared by os zs = zip_with (λ o z. next (price_for by o) z) os zs

-- by how much each price moves, in money: by elimination, or by rounds
abbrev pub moves : Bool → (List ℤ → List ℕ) → List ℤ → List Order → List OrderState → List ℤ
moves direct open_parts prices os zs = if direct then by_elimination (length prices) os zs else by_rounds (length prices) (open_parts prices) os zs

-- the prices after at most k steps: the first that are even, if some are. The barrier's parameter is halved `fall` times in each step.
unfoldable pub reached : (List ℤ → Bool) → (List ℤ → List ℕ) → Bool → ℕ → List Order → ℕ → ℕ → List ℤ → List ℕ → List ℤ
reached even open_parts direct fall os zero s prices ts = prices
reached even open_parts direct fall os (suc k) s prices ts =
    if even prices then prices else
    (let zs = order_states s prices os ts in
    let by = moves direct open_parts prices os zs in
    reached even open_parts direct fall os k (s + fall) (priced s prices by) (shared by os zs))

-- the joint prices of orders and start prices, given the test whether all assets are even at prices, and how much roundings of the orders'
-- demands leave open of each asset there, in parts of 1/256 of a unit: at most 100 steps, from half of each batch maximum
unfoldable pub joint_prices_by : (List ℤ → Bool) → (List ℤ → List ℕ) → Bool → ℕ → List Order → List ℤ → List ℤ
joint_prices_by even open_parts direct fall os start = reached even open_parts direct fall os 100 0 start (map (λ o. 2 ^ 31) os)

-- the joint prices sought quickly: the barrier's parameter falls to a quarter in each step, and steps go by rounds, up to 64 assets by elimination
abbrev pub joint_prices_quickly : (List ℤ → Bool) → (List ℤ → List ℕ) → List Order → List ℤ → List ℤ
joint_prices_quickly even open_parts os start = joint_prices_by even open_parts (nat_le (length start) 64) 2 os start

-- the same sought slowly: it falls to a half in each step, and steps go by elimination
abbrev pub joint_prices_slowly : (List ℤ → Bool) → (List ℤ → List ℕ) → List Order → List ℤ → List ℤ
joint_prices_slowly even open_parts os start = joint_prices_by even open_parts true 1 os start
