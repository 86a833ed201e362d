-- Joint prices: the steps of an interior point method. In each the solution of one linear system is by how much all prices move at once.
use Rattle.std.specs.Prelude.{ℕ, zero, suc, ◌-◌, ◌/◌, ◌^◌, ◌==◌, if◌then◌else◌, ℤ, pos, ◌+ℤ◌, ◌-ℤ◌, ◌*ℤ◌, int_div, Bool, List, [], ◌∷◌, ◌++◌, length, map}
use Rattle.std.specs.List.{range_with_len}
use Rattle.weight_rows.specs.Rows.{weight_in, price_of}
use Rattle.flow_orders.specs.Orders.{Order}
use Rattle.flow_orders.specs.Excess.{price_for}
use Rattle.joint_prices.specs.Numbers.{Num, within, cut, whole}
use Rattle.joint_prices.specs.Solving.{solved}
use Rattle.joint_prices.specs.OrderStates.{OrderState, order_state, slope, aim, next}

-- f of the members of two lists, place by place
abbrev pub zip_with : {X Y Z : Type 0} → (X → Y → Z) → List X → List Y → List Z
zip_with f [] ys = []
zip_with f (x ∷ xs) [] = []
zip_with f (x ∷ xs) (y ∷ ys) = f x y ∷ zip_with f xs ys

-- the state of each order, at prices and the orders' shares
abbrev pub order_states : ℕ → List ℤ → List Order → List ℕ → List OrderState
order_states tau prices os ts = zip_with (order_state tau prices) os ts

-- the sum of f over the orders and their states
abbrev pub sum_with : (Order → OrderState → ℤ) → List Order → List OrderState → ℤ
sum_with f [] ss = pos 0
sum_with f (o ∷ os) [] = pos 0
sum_with f (o ∷ os) (s ∷ ss) = f o s +ℤ sum_with f os ss

-- what an order adds to the matrix at two assets: its weights there times its slope
abbrev pub pair_part : ℕ → ℕ → Order → OrderState → ℤ
pair_part a b o s = weight_in o.row b *ℤ (weight_in o.row a *ℤ pos (slope s))

-- what an order adds to the right side at an asset: its weight there times what it would buy
abbrev pub aim_part : ℕ → Order → OrderState → ℤ
aim_part a o s = weight_in o.row a *ℤ aim s

-- the regularization of the diagonal, which makes the matrix positive definite
abbrev pub diagonal : ℕ → ℕ → ℤ
diagonal a b = if a == b then pos (2 ^ 20) else pos 0

-- the regularization's part of the right side, which draws prices to the start prices: the regularization of the diagonal times the distance
abbrev pub regularization : List ℤ → List ℤ → ℕ → ℤ
regularization start prices a = int_div (price_of start a -ℤ price_of prices a) (pos (2 ^ 30))

-- the matrix: how many units more of asset a the orders buy to first order for each grain that asset b falls, in 1/2^82 of a unit
unfoldable pub entry : List Order → List OrderState → ℕ → ℕ → ℤ
entry os ss a b = diagonal a b +ℤ sum_with (pair_part a b) os ss

-- the right side: how many units of an asset the orders buy in sum after a whole Newton step at these prices, in 1/2^32 of a unit
unfoldable pub right : List ℤ → List ℤ → List Order → List OrderState → ℕ → ℤ
right start prices os ss a = regularization start prices a +ℤ sum_with (aim_part a) os ss

-- the row of an asset in the upper triangle; the right side is scaled by 2^50, to the unit of the matrix
abbrev pub row_of : List ℤ → List ℤ → List Order → List OrderState → ℕ → List Num
row_of start prices os ss a = map (λ b. cut (entry os ss a b) (pos 0)) (range_with_len a (length prices - a)) ++ cut (right start prices os ss a) (pos 50) ∷ []

-- by how much each price moves, in grains: the solution of the system
unfoldable pub moves : List ℤ → List ℤ → List Order → List OrderState → List ℤ
moves start prices os ss = map whole (solved (map (row_of start prices os ss) (range_with_len 0 (length prices))))

-- the prices after their moves, each cut to -2^61 .. 2^61
abbrev pub priced : List ℤ → List ℤ → List ℤ
priced prices by = zip_with (λ p d. within 61 (p +ℤ d)) prices by

-- the shares after their Newton steps, by the prices' moves
abbrev pub shared : List ℤ → List Order → List OrderState → List ℕ
shared by os ss = zip_with (λ o s. next (price_for by o) s) os ss

-- the prices after at most k steps: the first that are settled, if some are. The barrier's parameter tau falls to a third in each step.
unfoldable pub reached : (List ℤ → Bool) → List Order → List ℤ → ℕ → ℕ → List ℤ → List ℕ → List ℤ
reached settled os start zero tau prices ts = prices
reached settled os start (suc k) tau prices ts =
    if settled prices then prices else
    (let ss = order_states tau prices os ts in
    let by = moves start prices os ss in
    reached settled os start k (tau / 3) (priced prices by) (shared by os ss))

-- the joint prices of orders and start prices, given the test whether all assets are settled at prices: at most 100 steps, from half of each
-- batch maximum and tau at 2^60
unfoldable pub joint_prices : (List ℤ → Bool) → List Order → List ℤ → List ℤ
joint_prices settled os start = reached settled os start 100 (2 ^ 60) start (map (λ o. 2 ^ 31) os)
