-- What the orders of a book need together.
use Rattle.std.proofs.Common.{◌≡◌, ℕ, ◌+◌, ◌^◌, ◌<◌, ◌≤◌, Bool, true, false, cond, eqb, ℤ, pos, negsuc, ◌≤ℤ◌, List, [], ◌∷◌, ◌++◌, length, get_or, refl, arith}
use Rattle.std.specs.Prelude.{unsigned_abs, slice_index_or}
use Rattle.std.specs.List.{sum_by, remove}
use Rattle.std.proofs.Math.Nat.{mul-le-mul, mul-le-mul_right}
use Rattle.std.proofs.lemmas.Int.{ints}
use Rattle.std.proofs.lemmas.List.Sums.{sum_by-cons, sum_by-le, sum_by_push, sum_by-remove}
use Rattle.weight_rows.specs.Rows.{weight_in}
use Rattle.weight_rows.proofs.RowLawProofs.{weights_are_small}
use Rattle.demand_curve.specs.Numbers.{or_zero}
use Rattle.flow_orders.specs.Orders.{Order, IsOrder, most_cap, remaining_quantity, sold, money_need, unit_need, own_sum, needed_money, needed_units}
use Rattle.flow_orders.proofs.Limits.{orders_fit}
use Rattle.order_book.specs.declared.sums.Need.{Need}
use Rattle.order_book.specs.declared.sums.Need.TheVariants.{Money, Units}
use Rattle.order_book.specs.Book.{AreLive}
use Rattle.order_book.specs.Needs.{need_of, most_for, most_needed, needed}

-- ---- the sums in ℕ are those of the definitions, in ℤ
pub counted : (own : Bool) (n : ℕ) → cond own (pos n) (pos 0) ≡ pos (cond own n 0)
counted true n = refl
counted false n = refl

pub own_sum_is : {X : Type 0} (whose : X → ℕ) (f : X → ℕ) (account : ℕ) (xs : List X)
    → own_sum whose account (λ x. pos (f x)) xs ≡ pos (sum_by (λ x. cond (eqb (whose x) account) (f x) 0) xs)
own_sum_is whose f account [] = refl
own_sum_is whose f account (x ∷ xs) =
    omega (arith, ints, counted (eqb (whose x) account) (f x), own_sum_is whose f account xs, sum_by-cons (λ y. cond (eqb (whose y) account) (f y) 0) x xs)

pub needed_money_is : (orders : List Order) (account : ℕ) → needed_money orders account ≡ pos (needed (Money account) orders)
needed_money_is orders account = own_sum_is (λ (o : Order). o.account) money_need account orders

pub needed_units_is : (orders : List Order) (account asset : ℕ) → needed_units orders account asset ≡ pos (needed (Units account asset) orders)
needed_units_is orders account asset = own_sum_is (λ (o : Order). o.account) (unit_need asset) account orders

-- ---- bounds
or_zero_most : (z : ℤ) (most : ℕ) → z ≤ℤ pos most → or_zero z ≤ most
or_zero_most (pos n) most below = omega (arith, ints, below)
or_zero_most (negsuc n) most below = omega arith

sold_most : (w : ℤ) → sold w ≤ unsigned_abs w
sold_most (pos n) = omega arith
sold_most (negsuc n) = omega arith

own_most : (own : Bool) (n most : ℕ) → n ≤ most → cond own n 0 ≤ most
own_most true n most below = below
own_most false n most below = omega arith

left_most : (o : Order) → IsOrder o → remaining_quantity o ≤ most_cap
left_most o is = omega (arith, is.cap)

pub need_most : (need : Need) (o : Order) → IsOrder o → need_of need o ≤ most_for need
need_most (Money account) o is =
    own_most (eqb o.account account) (money_need o) (2 ^ 100) (mul-le-mul (or_zero_most o.high (2 ^ 60) is.terms.high_in_range.1) (left_most o is))
need_most (Units account asset) o is =
    let weight : sold (weight_in o.row asset) ≤ 4096 = omega (arith, sold_most (weight_in o.row asset), weights_are_small o.row asset is.row) in
    own_most (eqb o.account account) (unit_need asset o) (2 ^ 52) (mul-le-mul weight (left_most o is))

pub needed_most : (need : Need) (orders : List Order) → AreLive orders → needed need orders ≤ most_needed need
needed_most need orders live =
    let all = sum_by-le (need_of need) (most_for need) orders (λ k d inside. need_most need (slice_index_or orders k d) (live.each k d inside)) in
    omega (arith, all, mul-le-mul_right (most_for need) live.few)

-- the most that an order needs fits a signed number
pub most_for_fits : (need : Need) → most_for need ≤ 2 ^ 100
most_for_fits (Money account) = omega arith
most_for_fits (Units account asset) = omega arith

pub most_needed_fits : (need : Need) → most_needed need ≤ 2 ^ 114
most_needed_fits (Money account) = omega (arith, orders_fit)
most_needed_fits (Units account asset) = omega (arith, orders_fit)

pub most_units_fit : (account asset : ℕ) → most_needed (Units account asset) ≤ 2 ^ 66
most_units_fit account asset = omega (arith, orders_fit)

-- ---- one more, or one less
pub needed-push : (need : Need) (orders : List Order) (o : Order) → needed need (orders ++ o ∷ []) ≡ needed need orders + need_of need o
needed-push need orders o = sum_by_push (need_of need) orders o

pub needed-remove : (need : Need) (orders : List Order) (place : ℕ) (d : Order) → place < length orders
    → needed need (remove orders place) + need_of need (get_or orders place d) ≡ needed need orders
needed-remove need orders place d inside = sum_by-remove (need_of need) orders place d inside
