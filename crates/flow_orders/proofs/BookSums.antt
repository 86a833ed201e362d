-- Sums over a book: rounding bound and squares as sums in ℤ, and a portfolio's price when one asset's price moves.
use Rattle.std.proofs.Common.{◌≡◌, ℕ, ◌*◌, ◌≤◌, ◌<◌, ℤ, pos, negsuc, ◌+ℤ◌, ◌-ℤ◌, ◌*ℤ◌, ◌≤ℤ◌, List, [], ◌∷◌, length, map, set, refl, arith}
use Rattle.std.specs.Prelude.{unsigned_abs}
use Rattle.std.specs.List.{sum_by}
use Rattle.std.proofs.lemmas.Int.{ints}
use Rattle.std.proofs.lemmas.List.{set-get_or}
use Rattle.std.proofs.lemmas.List.Sums.{sum_by-cons}
use Rattle.weight_rows.specs.declared.entries.Entry.{Entry}
use Rattle.list_sums.specs.Sums.{int_sum_by}
use Rattle.weight_rows.specs.Rows.{IsWeightVector, weight_in, price_of, portfolio_price}
use Rattle.list_sums.proofs.Products.{*ℤ-add}
use Rattle.weight_rows.proofs.RowLawProofs.{price_follows_one_price}
use Rattle.demand_curve.specs.Numbers.{distance}
use Rattle.demand_curve.proofs.Distances.{distance_is}
use Rattle.demand_curve.proofs.Quotients.{up_times}
use Rattle.flow_orders.specs.Orders.{Order}
use Rattle.flow_orders.proofs.Book.{squares}
use Rattle.flow_orders.specs.Excess.{steepness}

-- a sum of ℕ is the sum in ℤ
pub int_sum_by-pos : {X : Type 0} (f : X → ℕ) (xs : List X) → int_sum_by (λ x. pos (f x)) xs ≡ pos (sum_by f xs)
int_sum_by-pos f [] = refl
int_sum_by-pos f (x ∷ xs) = omega (arith, ints, int_sum_by-pos f xs, sum_by-cons f x xs)

-- a sum over a mapped list
pub int_sum_by-map : {X Y : Type 0} (f : Y → ℤ) (g : X → Y) (xs : List X) → int_sum_by f (map g xs) ≡ int_sum_by (λ x. f (g x)) xs
int_sum_by-map f g [] = refl
int_sum_by-map f g (x ∷ xs) = omega (arith, ints, int_sum_by-map f g xs)

-- a square has no sign
pub square_is : (w : ℤ) → w *ℤ w ≡ pos (unsigned_abs w * unsigned_abs w)
square_is (pos n) = omega (arith, ints)
square_is (negsuc n) = omega (arith, ints)

-- the squares of a book's weights are at most 256 times its slope bound
pub squares-le : (orders : List Order) (asset : ℕ) → squares orders asset ≤ 256 * steepness orders asset
unfolding steepness
squares-le orders asset = omega (arith, up_times (squares orders asset) 256 (omega arith))

-- the squares of a book's weights, summed in ℤ
pub squares_are : (orders : List Order) (asset : ℕ) → int_sum_by (λ o. weight_in o.row asset *ℤ weight_in o.row asset) orders ≡ pos (squares orders asset)
squares_are [] asset = refl
squares_are (o ∷ orders) asset =
    let square = square_is (weight_in o.row asset) in
    let more = sum_by-cons (λ (o : Order). unsigned_abs (weight_in o.row asset) * unsigned_abs (weight_in o.row asset)) o orders in
    omega (arith, ints, square, more, squares_are orders asset)

-- the price of a portfolio at two prices of one asset
pub price_follows : (row : List Entry) (prices : List ℤ) (asset : ℕ) (x y : ℤ) → IsWeightVector row → asset < length prices → portfolio_price row (set prices asset y) ≡ portfolio_price row (set prices asset x) +ℤ weight_in row asset *ℤ (y -ℤ x)
price_follows row prices asset x y lawful within =
    let at_x = price_follows_one_price row prices asset x lawful within in
    let at_y = price_follows_one_price row prices asset y lawful within in
    let p = price_of prices asset in
    let whole : y -ℤ x +ℤ (x -ℤ p) ≡ y -ℤ p = omega (arith, ints) in
    let split = rw whole at (*ℤ-add (weight_in row asset) (y -ℤ x) (x -ℤ p)) in
    omega (arith, ints, at_x, at_y, split)

-- one grain more of an asset's price adds its weight
pub price_one_more : (row : List Entry) (prices : List ℤ) (asset : ℕ) (x : ℤ) → IsWeightVector row → asset < length prices → portfolio_price row (set prices asset (x +ℤ pos 1)) ≡ portfolio_price row (set prices asset x) +ℤ weight_in row asset
price_one_more row prices asset x lawful within =
    let one : x +ℤ pos 1 -ℤ x ≡ pos 1 = omega (arith, ints) in
    let step = rw one at (price_follows row prices asset x (x +ℤ pos 1) lawful within) in
    omega (arith, ints, step)

-- setting an asset's price to what it is changes nothing
pub own_price : (prices : List ℤ) (asset : ℕ) → set prices asset (price_of prices asset) ≡ prices
own_price prices asset = set-get_or prices asset (pos 0)

-- a number is a lesser one plus their distance
pub from_distance : (x y : ℤ) → x ≤ℤ y → y ≡ x +ℤ pos (distance y x)
from_distance x y h = omega (arith, ints, distance_is y x)
