-- Walks and skips lower the dual; admissible clearings are optimal.
use Rattle.std.proofs.Common.{List, [], ◌∷◌, ◌≤◌, arith, length, ◌≡◌, ℕ, ℤ, pos, ◌+◌, ap, refl}
use Rattle.std.specs.Prelude.{All}
use Rattle.std.proofs.lemmas.Int.{ints}
use Rattle.flow_orders.specs.Orders.{Order, IsOrder}
use Rattle.flow_orders.specs.Moves.{walk_reach}
use Rattle.flow_orders.specs.Duals.{movement_of}
use Rattle.flow_orders.specs.Outcomes.{Skipping, IsWide, IsLegalFrom, end_of, dual_of}
use Rattle.flow_orders.specs.Laws.{WalksLowerTheDual, AdmissibleSkipsLowerTheDual, AdmissibleClearingsAreOptimal}
use Rattle.flow_orders.proofs.Book.{IsConsistent as IsConsistentOrder}
use Rattle.flow_orders.proofs.DualWalks.{common_part_is_there, walk_lowers_dual, floors_fall, movement_at_least}
use Rattle.flow_orders.proofs.WalkFacts.{movement_bounded}
use Rattle.flow_orders.proofs.Moving.{legal_moves, no_orders_no_walk}
use Rattle.flow_orders.proofs.Optimal.{right_is_optimal}

pub admissible_clearings_are_optimal : AdmissibleClearingsAreOptimal
admissible_clearings_are_optimal = right_is_optimal

some_orders : (orders : List Order) → IsWide orders → 1 ≤ length orders
some_orders orders wide = let inside = wide.1.1 in omega (arith, inside)

order_is_consistent : (orders : List Order) → All IsOrder orders → All IsConsistentOrder orders
order_is_consistent orders each k d inside = let o = each k d inside in record { limits = o.terms; lawful = o.row }

moves_bounded : (parts : ℕ) → 1 ≤ parts → (orders : List Order) (start : List ℤ) (walk : List ℕ) → All IsOrder orders → IsLegalFrom parts orders start walk → movement_of parts orders start walk ≤ dual_of orders start + length orders
moves_bounded parts whole [] start walk each legal = let none = no_orders_no_walk parts (length start) start walk legal in omega (arith, none)
moves_bounded parts whole (o ∷ orders) start walk each legal =
    let all = o ∷ orders in
    let bounded = movement_bounded parts all walk_reach whole (order_is_consistent all each) (omega arith) walk start (end_of parts all start walk) (movement_of parts all start walk) (legal_moves parts all (length start) start walk refl legal) in
    omega (arith, bounded.0)

pub walks_lower_the_dual : WalksLowerTheDual
walks_lower_the_dual = record {
  common = λ orders each. common_part_is_there orders (order_is_consistent orders each);
  exact = λ parts whole N orders start walk each common legal.
      walk_lowers_dual parts orders walk_reach whole N common.1 (order_is_consistent orders each) walk start (end_of parts orders start walk) (movement_of parts orders start walk) (legal_moves parts orders (length start) start walk refl legal);
  moves = λ parts orders start walk legal. movement_at_least parts orders walk_reach walk start (end_of parts orders start walk) (movement_of parts orders start walk) (legal_moves parts orders (length start) start walk refl legal);
  bounded = moves_bounded;
}

pub admissible_skips_lower_the_dual : AdmissibleSkipsLowerTheDual
admissible_skips_lower_the_dual parts whole orders start budget s each right =
    let walk = legal_moves parts orders (length start) start s.trace refl right.legal in
    let falls = floors_fall parts whole orders walk_reach (order_is_consistent orders each) (some_orders orders right.wide) s.trace start (end_of parts orders start s.trace) (movement_of parts orders start s.trace) walk in
    let moves = movement_at_least parts orders walk_reach s.trace start (end_of parts orders start s.trace) (movement_of parts orders start s.trace) walk in
    let end_is : s.end_dual ≡ pos (dual_of orders (end_of parts orders start s.trace)) = ap (λ (x : Skipping). x.end_dual) right.duals in
    let start_is : s.start_dual ≡ pos (dual_of orders start) = ap (λ (x : Skipping). x.start_dual) right.duals in
    (omega (arith, ints, falls, end_is, start_is), omega (arith, moves, right.whole))
