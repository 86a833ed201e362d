-- The system of a step, solved by rounds of conjugate gradients over the orders: no matrix is made, and a round is two passes over the legs.
use Rattle.std.specs.Prelude.{ℕ, zero, suc, ◌+◌, ◌-◌, ◌*◌, ◌/◌, ◌^◌, nat_le, if◌then◌else◌, ◌&&◌, Bool, true, ℤ, pos, neg_ℤ, ◌+ℤ◌, ◌-ℤ◌, ◌*ℤ◌, unsigned_abs, List, [], ◌∷◌, length, map}
use Rattle.std.specs.List.{range_with_len}
use Rattle.std.specs.Int.{int_min, int_max}
use Rattle.list_sums.specs.Sums.{int_sum_by}
use Rattle.weight_rows.specs.Rows.{weight_in, price_of}
use Rattle.flow_orders.specs.Orders.{Order}
use Rattle.flow_orders.specs.Excess.{price_for}
use Rattle.joint_prices.specs.Numbers.{Num, zero_num, scaled, cut, times, over, minus, whole}
use Rattle.joint_prices.specs.Solving.{less, reduced}
use Rattle.joint_prices.specs.Steps.{zip_with}
use Rattle.joint_rounds.specs.OrderStates.{OrderState, aim}

-- the sum of f over the orders and their states
abbrev pub sum_with : (Order → OrderState → ℤ) → List Order → List OrderState → ℤ
sum_with f os zs = int_sum_by (λ x. x) (zip_with f os zs)

-- what an order adds to the excess of an asset: its weight there times what it would buy
abbrev pub aim_part : ℕ → Order → OrderState → ℤ
aim_part a o z = weight_in o.row a *ℤ aim z

-- what it adds to the size of an asset: its squared weight there times its slope over the number of its legs. A portfolio of many legs is one
-- direction, and its slope says little of each asset alone.
abbrev pub size_part : ℕ → Order → OrderState → ℤ
size_part a o z = weight_in o.row a *ℤ (weight_in o.row a *ℤ pos (z.slope / length o.row))

-- what it adds to the flow of an asset as prices move by c: its weight there times how many units less of its portfolio it buys
abbrev pub flow_part : List ℤ → ℕ → Order → OrderState → ℤ
flow_part c a o z = weight_in o.row a *ℤ scaled (price_for c o *ℤ pos z.slope) (pos 28)

-- how many units of an asset the orders buy in sum after a whole Newton step at these prices
unfoldable pub excess : List Order → List OrderState → ℕ → Num
excess os zs a = cut (sum_with (aim_part a) os zs) (neg_ℤ (pos 32))

-- the size of an asset, by which its excess is divided for a direction, as by the diagonal of the system
unfoldable pub size : List Order → List OrderState → ℕ → Num
size os zs a = cut (pos 1 +ℤ sum_with (size_part a) os zs) (neg_ℤ (pos 70))

-- the greatest exponent of a direction
abbrev pub top : List Num → ℤ
top [] = neg_ℤ (pos (2 ^ 20))
top (d ∷ ds) = int_max d.e (top ds)

-- a number as a multiple of 2^(t + 16), rounded towards 0
abbrev pub flat_by : ℤ → Num → ℤ
flat_by t d = scaled d.m (int_min (t +ℤ pos 16 -ℤ d.e) (pos 126))

-- a direction as multiples of one power of 2, by which the largest keeps 46 bits
abbrev pub flat : List Num → List ℤ
flat ds = map (flat_by (top ds)) ds

-- how much less of an asset is asked for as prices move by c
unfoldable pub flow : List Order → List OrderState → List ℤ → ℕ → ℤ
flow os zs c a = scaled (price_of c a) (pos 28) +ℤ sum_with (flow_part c a) os zs

-- how much less of each asset is asked for as prices move by a direction
unfoldable pub flows : List Order → List OrderState → List Num → List Num
flows os zs ds = map (λ a. cut (flow os zs (flat ds) a) (top ds -ℤ pos 26)) (range_with_len 0 (length ds))

-- the sum of products
unfoldable pub dot : List Num → List Num → Num
dot xs ys = less zero_num (map (minus zero_num) xs) ys

-- an amount of units in parts of 1/256, rounded towards 0
unfoldable pub parts : Num → ℤ
parts x = whole (record { m = x.m; e = x.e +ℤ pos 8 })

-- what is left of each asset is at most a quarter of what roundings leave open, in parts of 1/256 of a unit
abbrev pub is_little : List Num → List ℕ → Bool
is_little [] open_parts = true
is_little (r ∷ rs) [] = true
is_little (r ∷ rs) (w ∷ open_parts) = nat_le (unsigned_abs (parts r)) (w / 4) && is_little rs open_parts

-- how far prices move along a direction, with r left: to where least is left
abbrev pub stride : List Order → List OrderState → List Num → List Num → Num
stride os zs d r = over (dot d r) (dot d (flows os zs d))

-- what is left then
abbrev pub left_after : List Order → List OrderState → List Num → List Num → List Num
left_after os zs d r = reduced (stride os zs d r) (flows os zs d) r

-- the direction z less its part along the direction d
abbrev pub turned : List Order → List OrderState → List Num → List Num → List Num
turned os zs d z = reduced (over (dot z (flows os zs d)) (dot d (flows os zs d))) d z

-- At most k rounds. x are the moves so far, d is the direction, and r what is left; m are the assets' sizes. Both quotients of a round are taken
-- from the direction itself, and none is carried along, so roundings don't add up: each round is an exact search along its direction.
unfoldable pub rounds : ℕ → List Order → List OrderState → List ℕ → List Num → List Num → List Num → List Num → List Num
rounds zero os zs open_parts m x d r = x
rounds (suc k) os zs open_parts m x d r =
    if is_little r open_parts then x else
    (let s = left_after os zs d r in
    rounds k os zs open_parts m (reduced (minus zero_num (stride os zs d r)) d x) (turned os zs d (zip_with over s m)) s)

-- by how much each price moves, in money: what at most 100 rounds find
unfoldable pub by_rounds : ℕ → List ℕ → List Order → List OrderState → List ℤ
by_rounds n open_parts os zs =
    let r = map (excess os zs) (range_with_len 0 n) in
    let m = map (size os zs) (range_with_len 0 n) in
    map whole (rounds 100 os zs open_parts m (map (λ a. zero_num) r) (zip_with over r m) r)
