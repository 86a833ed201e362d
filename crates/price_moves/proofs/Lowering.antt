-- Moves lower the exact dual value.
use Rattle.std.proofs.Common.{◌≡◌, ⊎_elim, ℕ, ◌+◌, ◌*◌, ◌≤◌, ◌<◌, true, ℤ, ◌-ℤ◌, List, length, take, ap, sym, subst, ◌∙◌, arith}
use Rattle.std.specs.Prelude.{All, unsigned_abs}
use Rattle.std.proofs.lemmas.Int.{ints}
use Rattle.weight_rows.specs.Rows.{price_of}
use Rattle.flow_orders.specs.Orders.{Order, IsOrder}
use Rattle.flow_orders.specs.Excess.{is_unsettled}
use Rattle.flow_orders.specs.Moves.{moved}
use Rattle.flow_orders.specs.Outcomes.{IsLegalFrom, end_of}
use Rattle.flow_orders.specs.Duals.{exact_dual, movement_of}
use Rattle.flow_orders.proofs.SingleMoves.{price_of-risen, price_of-fallen}
use Rattle.flow_orders.proofs.DualWalks.{move_lowers_dual}
use Rattle.flow_orders.proofs.Moving.{moved_is}
use Rattle.flow_orders.proofs.WalkLaws.{walks_lower_the_dual}
use Rattle.price_moves.specs.declared.retracing.Retraced.{Retraced}
use Rattle.price_moves.specs.declared.retracing.Retraced.TheVariants.{Legal, Illegal}
use Rattle.price_moves.specs.Retracing.{IsRetraced, IsLowered, made_of}

-- a move lowers the exact dual value by the amount moved
pub move_lowers : (parts : ℕ) → 1 ≤ parts → (orders : List Order) (prices : List ℤ) (asset reach : ℕ) (next : List ℤ) → All IsOrder orders → asset < length prices → 1 ≤ reach → is_unsettled orders prices asset ≡ true
    → next ≡ moved parts orders reach prices asset → IsLowered orders prices (unsigned_abs (price_of next asset -ℤ price_of prices asset)) next
move_lowers parts whole orders prices asset reach next each within some unsettled made N common =
    let move = moved_is parts orders reach prices asset some unsettled in
    let lowered = move_lowers_dual parts whole N orders common.1 (λ k d inside. let o = each k d inside in record { limits = o.terms; lawful = o.row }) prices asset reach move.0 (moved parts orders reach prices asset) within move.1 in
    let amount : unsigned_abs (price_of next asset -ℤ price_of prices asset) ≡ move.0 =
    ⊎_elim
    (λ rise. let higher = ap (λ p. price_of p asset) (made ∙ rise.1) ∙ price_of-risen prices asset move.0 within in omega (arith, ints, higher))
    (λ fall. let lower = ap (λ p. price_of p asset) (made ∙ fall.1) ∙ price_of-fallen prices asset move.0 within in omega (arith, ints, lower))
    move.1 in
    subst (λ n. exact_dual N orders next + N * n ≤ exact_dual N orders prices) (sym amount)
    (subst (λ p. exact_dual N orders p + N * move.0 ≤ exact_dual N orders prices) (sym made) lowered)

-- a valid walk lowers the exact dual value by its movement
pub walk_lowers : (parts : ℕ) → 1 ≤ parts → (orders : List Order) (start : List ℤ) (walk : List ℕ) (end : List ℤ) → All IsOrder orders → IsLegalFrom parts orders start walk → end ≡ end_of parts orders start walk
    → IsLowered orders start (movement_of parts orders start walk) end
walk_lowers parts whole orders start walk end each legal ends N common =
    subst (λ p. exact_dual N orders p + N * movement_of parts orders start walk ≤ exact_dual N orders start) (sym ends) (walks_lower_the_dual.exact parts whole N orders start walk each common legal)

-- the moves of a walk that were made again lower the exact dual value by their movement
pub retrace_lowers : (parts : ℕ) → 1 ≤ parts → (result : Retraced) (orders : List Order) (start : List ℤ) (walk : List ℕ) (end : List ℤ) → All IsOrder orders → IsRetraced parts result orders start walk end
    → IsLowered orders start (movement_of parts orders start (made_of result walk)) end
retrace_lowers parts whole Legal orders start walk end each made = walk_lowers parts whole orders start walk end each made.0 made.1
retrace_lowers parts whole (Illegal place) orders start walk end each made = walk_lowers parts whole orders start (take place walk) end each made.0.before made.1
