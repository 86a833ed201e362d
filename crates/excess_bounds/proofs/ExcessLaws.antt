-- The true excess is between the rounded ones, and moves by at most the slope bound for each grain.
use Rattle.std.proofs.Common.{◌≡◌, inl, inr, ⊎_elim, ℕ, suc, ◌*◌, ◌<◌, ℤ, pos, negsuc, ◌+ℤ◌, ◌-ℤ◌, ◌*ℤ◌, ◌≤ℤ◌, List, length, set, ap, sym, subst, ◌∙◌, arith}
use Rattle.std.specs.Prelude.{All, neg_ℤ, slice_index_or}
use Rattle.std.proofs.Math.Nat.{mul-le-mul_left}
use Rattle.std.proofs.lemmas.Int.{ints}
use Rattle.weight_rows.specs.Rows.{weight_in, price_of, portfolio_price}
use Rattle.demand_curve.specs.Demand.{Terms, IsWithinLimits, scaled_demand}
use Rattle.demand_curve.proofs.RoundingLaws.{demand_never_rises}
use Rattle.list_sums.proofs.SumLemmas.{int_sum_by-le}
use Rattle.flow_orders.specs.Orders.{Order, IsOrder, terms_of}
use Rattle.flow_orders.specs.Duals.{share}
use Rattle.flow_orders.proofs.Book.{IsConsistent}
use Rattle.flow_orders.proofs.BookSums.{price_one_more}
use Rattle.flow_orders.proofs.Progress.{low_excess-below, high_excess-above, low_excess_in-below, high_excess_in-above, true_excess_step, excess_after_rise, excess_after_fall}
use Rattle.flow_orders.proofs.SingleMoves.{price_of-risen, price_of-fallen}
use Rattle.flow_orders.proofs.Moving.{moved_is}
use Rattle.flow_orders.specs.Moves.{moved}
use Rattle.excess_bounds.specs.Laws.{true_excess, ExcessIsEnclosed, PartsEncloseExcess, GrainsMoveExcessLittle, MovesLeaveExcess}

all_consistent : (orders : List Order) → All IsOrder orders → All IsConsistent orders
all_consistent orders each k d inside = let o = each k d inside in record { limits = o.terms; lawful = o.row }

pub excess_is_enclosed : ExcessIsEnclosed
excess_is_enclosed N orders prices asset each common =
    let consistent = all_consistent orders each in
    (low_excess-below N orders common.1 consistent prices asset, high_excess-above N orders common.1 consistent prices asset)

pub parts_enclose_excess : PartsEncloseExcess
parts_enclose_excess parts N orders prices asset each common =
    let consistent = all_consistent orders each in
    (low_excess_in-below N orders common.1 consistent parts prices asset, high_excess_in-above N orders common.1 consistent parts prices asset)

-- a grain more of the price of an asset of weight w doesn't raise what an order asks for of it
no_more : (w : ℤ) (t : Terms) → IsWithinLimits t → (c : ℤ) (k : ℕ) → (w *ℤ pos (k * scaled_demand t (c +ℤ w))) ≤ℤ (w *ℤ pos (k * scaled_demand t c))
no_more (pos n) t h c k =
    let more : c ≤ℤ (c +ℤ pos n) = omega (arith, ints) in
    omega (arith, ints, mul-le-mul_left (n * k) (demand_never_rises t h c (c +ℤ pos n) more).demand)
no_more (negsuc n) t h c k =
    let less : (c +ℤ negsuc n) ≤ℤ c = omega (arith, ints) in
    omega (arith, ints, mul-le-mul_left (suc n * k) (demand_never_rises t h (c +ℤ negsuc n) c less).demand)

no_rise : (N : ℕ) (orders : List Order) (prices : List ℤ) (asset : ℕ) (x : ℤ) → All IsConsistent orders → asset < length prices
    → true_excess N orders (set prices asset (x +ℤ pos 1)) asset ≤ℤ true_excess N orders (set prices asset x) asset
no_rise N orders prices asset x consistent within =
    let asked = λ (prices : List ℤ) (o : Order). weight_in o.row asset *ℤ pos (share N (terms_of o) * (2 * o.rate) * scaled_demand (terms_of o) (portfolio_price o.row prices)) in
    int_sum_by-le (asked (set prices asset (x +ℤ pos 1))) (asked (set prices asset x)) orders
    (λ k d inside.
    let o : Order = slice_index_or orders k d in
    let h : IsConsistent o = consistent k d inside in
    rw (price_one_more o.row prices asset x h.lawful within)
    (no_more (weight_in o.row asset) (terms_of o) h.limits (portfolio_price o.row (set prices asset x)) (share N (terms_of o) * (2 * o.rate))))

pub grains_move_excess_little : GrainsMoveExcessLittle
grains_move_excess_little N orders prices asset x each common within =
    let consistent = all_consistent orders each in
    record {
      no_rise = no_rise N orders prices asset x consistent within;
      little = true_excess_step N orders common.1 consistent prices asset x within;
    }

pub moves_leave_excess : MovesLeaveExcess
moves_leave_excess parts whole N orders prices asset reach each common within some unsettled =
    let consistent = all_consistent orders each in
    let move = moved_is parts orders reach prices asset some unsettled in
    let next = moved parts orders reach prices asset in
    ⊎_elim
    (λ rise.
    let higher : price_of next asset ≡ price_of prices asset +ℤ pos move.0 = ap (λ p. price_of p asset) rise.1 ∙ price_of-risen prices asset move.0 within in
    let least = rise.0.least in
    inl (omega (arith, ints, higher, least), subst (λ p. pos N ≤ℤ (pos parts *ℤ true_excess N orders p asset)) (sym rise.1) (excess_after_rise parts whole N orders common.1 consistent prices asset reach move.0 within rise.0)))
    (λ fall.
    let lower : price_of next asset ≡ price_of prices asset -ℤ pos move.0 = ap (λ p. price_of p asset) fall.1 ∙ price_of-fallen prices asset move.0 within in
    let least = fall.0.least in
    inr (omega (arith, ints, lower, least), subst (λ p. (pos parts *ℤ true_excess N orders p asset) ≤ℤ neg_ℤ (pos N)) (sym fall.1) (excess_after_fall parts whole N orders common.1 consistent prices asset reach move.0 within fall.0)))
    move.1
