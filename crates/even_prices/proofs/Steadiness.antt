-- Orders whose demand is the same at all prices within a grain: all that aren't active, and all whose demand is cut at these prices.
use Rattle.std.proofs.Common.{◌≡◌, ◌⊎◌, inl, inr, ⊎_elim, ℕ, zero, suc, ◌*◌, ◌≤◌, ◌<◌, ℤ, pos, negsuc, ◌+ℤ◌, ◌-ℤ◌, ◌*ℤ◌, ◌≤ℤ◌, Bool, true, false, ◌&&◌, List, [], ◌∷◌, length, set, refl, sym, ◌∙◌, arith}
use Rattle.std.specs.Prelude.{unsigned_abs, int_lt}
use Rattle.std.specs.List.{sum_by}
use Rattle.std.proofs.lemmas.Int.{ints}
use Rattle.std.proofs.lemmas.Bool.Decides.{eqb_tells}
use Rattle.std.proofs.lemmas.List.{get_or-set_other, get_or-set_same, length-set}
use Rattle.std.proofs.lemmas.List.Sums.{sum_by-cons}
use Rattle.list_sums.proofs.Products.{*ℤ-sub, unsigned_abs-mul_le}
use Rattle.weight_rows.specs.declared.entries.Entry.{Entry}
use Rattle.weight_rows.specs.Rows.{weight_in, price_of, portfolio_price}
use Rattle.demand_curve.specs.Demand.{Terms, IsWithinLimits, span, scaled_demand}
use Rattle.demand_curve.proofs.DemandLaws.{demand_is_cut_at_limits}
use Rattle.flow_orders.specs.Orders.{Order, terms_of}
use Rattle.flow_orders.specs.Excess.{price_for, low_part_in, high_part_in}
use Rattle.flow_orders.specs.Moves.{risen, fallen}
use Rattle.flow_orders.proofs.Book.{IsConsistent}
use Rattle.even_prices.specs.Active.{weight_sum, is_active, AreWithinAGrain, IsSteady}
use Rattle.even_prices.proofs.Wholes.{part_of_whole, whole_if_same}
use Rattle.even_prices.proofs.Counted.{IsStill, price_risen, price_fallen}

-- ---- a portfolio's price moves by at most the sum of its absolute weights

-- a leg's cost moves by at most its absolute weight
leg_near : (w p q : ℤ) → unsigned_abs (q -ℤ p) ≤ 1 → unsigned_abs (w *ℤ q -ℤ w *ℤ p) ≤ unsigned_abs w
leg_near w p q near =
    let most = unsigned_abs-mul_le w (q -ℤ p) (unsigned_abs w) 1 (omega arith) near in
    let split = *ℤ-sub w q p in
    let same : w *ℤ q -ℤ w *ℤ p ≡ w *ℤ (q -ℤ p) = omega (arith, ints, split) in
    rw same (omega (arith, most))

row_near : (row : List Entry) (prices others : List ℤ) → ((asset : ℕ) → unsigned_abs (price_of others asset -ℤ price_of prices asset) ≤ 1)
    → unsigned_abs (portfolio_price row others -ℤ portfolio_price row prices) ≤ sum_by (λ (e : Entry). unsigned_abs e.weight) row
unfolding portfolio_price
row_near [] prices others near = omega (arith, ints)
row_near (e ∷ row) prices others near =
    let first = leg_near e.weight (price_of prices e.asset) (price_of others e.asset) (near e.asset) in
    let rest = row_near row prices others near in
    omega (arith, ints, first, rest, sum_by-cons (λ (e : Entry). unsigned_abs e.weight) e row)

-- ---- an order that isn't active is steady

-- one of two tests fails
pub one_fails : (a b : Bool) → (a && b) ≡ false → (a ≡ false) ⊎ (b ≡ false)
one_fails true b e = inr e
one_fails false b e = inl refl

-- a demand is cut at a price, and at one that is not too far from it
same_past : (t : Terms) → IsWithinLimits t → (c d : ℤ) (s : ℕ) → unsigned_abs (d -ℤ c) ≤ s → (int_lt (t.low -ℤ pos s) c && int_lt c (t.high +ℤ pos s)) ≡ false → scaled_demand t d ≡ scaled_demand t c
same_past t h c d s near past =
    ⊎_elim
    (λ low.
    let here : c ≤ℤ t.low = omega (arith, ints, low) in
    let there : d ≤ℤ t.low = omega (arith, ints, low, near) in
    (demand_is_cut_at_limits t h d).whole_below there ∙ sym ((demand_is_cut_at_limits t h c).whole_below here))
    (λ high.
    let here : t.high ≤ℤ c = omega (arith, ints, high) in
    let there : t.high ≤ℤ d = omega (arith, ints, high, near) in
    (demand_is_cut_at_limits t h d).none_above there ∙ sym ((demand_is_cut_at_limits t h c).none_above here))
    (one_fails (int_lt (t.low -ℤ pos s) c) (int_lt c (t.high +ℤ pos s)) past)

pub inactive_is_steady : (o : Order) (prices : List ℤ) → IsConsistent o → is_active prices o ≡ false → IsSteady o prices
inactive_is_steady o prices h past others within =
    same_past (terms_of o) h.limits (price_for prices o) (price_for others o) (weight_sum o) (row_near o.row prices others within.near) past

-- ---- a steady order asks for a whole number of units, if it names the asset

-- a price that is a grain higher, or a grain lower
moved_near : (prices : List ℤ) (asset : ℕ) (x : ℤ) → asset < length prices → unsigned_abs (x -ℤ price_of prices asset) ≤ 1 → AreWithinAGrain prices (set prices asset x)
moved_near prices asset x within near = record {
  one_each = length-set prices asset x;
  near = λ other.
      ⊎_elim
      (λ here. rw (← here.1, get_or-set_same prices asset x (pos 0) within) near)
      (λ away. rw (get_or-set_other prices asset other x (pos 0) (λ same. away.1 (sym same))) (omega (arith, ints)))
      (eqb_tells asset other);
}

same_risen : (o : Order) (prices : List ℤ) (asset : ℕ) → IsConsistent o → asset < length prices → IsSteady o prices → scaled_demand (terms_of o) (price_for prices o +ℤ weight_in o.row asset) ≡ scaled_demand (terms_of o) (price_for prices o)
same_risen o prices asset h within steady =
    let there = steady (risen prices asset 1) (moved_near prices asset (price_of prices asset +ℤ pos 1) within (omega (arith, ints))) in
    rw (price_risen o prices asset h.lawful within) at there

same_fallen : (o : Order) (prices : List ℤ) (asset : ℕ) → IsConsistent o → asset < length prices → IsSteady o prices → scaled_demand (terms_of o) (price_for prices o -ℤ weight_in o.row asset) ≡ scaled_demand (terms_of o) (price_for prices o)
same_fallen o prices asset h within steady =
    let there = steady (fallen prices asset 1) (moved_near prices asset (price_of prices asset -ℤ pos 1) within (omega (arith, ints))) in
    rw (price_fallen o prices asset h.lawful within) at there

-- a demand that is the same a weight higher and lower is whole
whole_by_weight : (w : ℤ) (t : Terms) → IsWithinLimits t → (c : ℤ) → scaled_demand t (c +ℤ w) ≡ scaled_demand t c → scaled_demand t (c -ℤ w) ≡ scaled_demand t c → (w ≡ pos 0) ⊎ ((x : ℕ) × (scaled_demand t c ≡ x * span t))
whole_by_weight (pos zero) t h c above below = inl refl
whole_by_weight (pos (suc n)) t h c above below = inr (whole_if_same t h c (suc n) (omega arith) above)
whole_by_weight (negsuc n) t h c above below =
    let back : c -ℤ negsuc n ≡ c +ℤ pos (suc n) = omega (arith, ints) in
    inr (whole_if_same t h c (suc n) (omega arith) (rw back at below))

pub steady_is_still : (o : Order) (prices : List ℤ) (asset : ℕ) → IsConsistent o → asset < length prices → IsSteady o prices → IsStill (weight_in o.row asset) (terms_of o) (price_for prices o)
steady_is_still o prices asset h within steady =
    let above = same_risen o prices asset h within steady in
    let below = same_fallen o prices asset h within steady in
    ⊎_elim
    (λ none. inl none)
    (λ whole. inr (whole.0, record { here = whole.1; above = above ∙ whole.1; below = below ∙ whole.1 }))
    (whole_by_weight (weight_in o.row asset) (terms_of o) h.limits (price_for prices o) above below)

-- what an order adds to both excesses of an asset in parts is one number, the same at all prices within a grain
pub one_part : (parts : ℕ) (o : Order) (prices : List ℤ) (asset : ℕ) → IsConsistent o → asset < length prices → IsSteady o prices
    → (z : ℤ) × ((others : List ℤ) → AreWithinAGrain prices others → (low_part_in parts (weight_in o.row asset) (terms_of o) (price_for others o) ≡ z) × (high_part_in parts (weight_in o.row asset) (terms_of o) (price_for others o) ≡ z))
one_part parts o prices asset h within steady =
    ⊎_elim
    (λ none. (pos 0, λ others near. rw none (omega (arith, ints), omega (arith, ints))))
    (λ whole. (weight_in o.row asset *ℤ pos (parts * whole.0), λ others near. part_of_whole parts (weight_in o.row asset) (terms_of o) h.limits (price_for others o) whole.0 (steady others near ∙ whole.1.here)))
    (steady_is_still o prices asset h within steady)
