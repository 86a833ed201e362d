-- Walks: one more move, where they end, and how far.
use Rattle.std.proofs.Common.{◌≡◌, ℕ, zero, suc, ◌+◌, ◌*◌, ◌≤◌, ◌<◌, inl, inr, ℤ, pos, ◌+ℤ◌, ◌-ℤ◌, List, [], ◌∷◌, ◌++◌, length, get_or, ap, refl, sym, ◌∙◌, subst, arith}
use Rattle.std.specs.Prelude.{All, unsigned_abs}
use Rattle.std.proofs.lemmas.Int.{ints}
use Rattle.std.proofs.lemmas.List.Elements.{All-set}
use Rattle.weight_rows.specs.Rows.{price_of}
use Rattle.flow_orders.specs.Orders.{Order}
use Rattle.flow_orders.proofs.Book.{IsConsistent}
use Rattle.flow_orders.proofs.Progress.{dual_floors}
use Rattle.flow_orders.proofs.MoveFacts.{move_unique}
use Rattle.flow_orders.proofs.DualWalks.{IsMove, IsWalk, length-move, movement_at_least, floors_fall}

module _ (parts : ℕ) (orders : List Order) (reach : ℕ) where
  -- a walk with one move more is a walk
  pub walk_more : (assets : List ℕ) (start stop : List ℤ) (movement asset d : ℕ) (next : List ℤ) → IsWalk parts orders reach start assets stop movement → asset < length stop → IsMove parts orders stop asset reach d next → IsWalk parts orders reach start (assets ++ asset ∷ []) next (movement + d)
  walk_more [] start stop movement asset d next (same, none) within move =
      (next, d, 0, subst (λ p. asset < length p) same within, subst (λ p. IsMove parts orders p asset reach d next) same move, (refl, refl), omega (arith, none))
  walk_more (first ∷ assets) start stop movement asset d next (then, e, rest, inside, one, walk, sum) within move =
      (then, e, rest + d, inside, one, walk_more assets then stop rest asset d next walk within move, omega (arith, sum))

  -- the list of assets determines a walk
  pub walk_unique : All IsConsistent orders → (assets : List ℕ) (start stop other : List ℤ) (movement length : ℕ) → IsWalk parts orders reach start assets stop movement → IsWalk parts orders reach start assets other length → (stop ≡ other) × (movement ≡ length)
  walk_unique consistent [] start stop other movement length (same, none) (same_too, none_too) = (same ∙ sym same_too, none ∙ sym none_too)
  walk_unique consistent (asset ∷ assets) start stop other movement length (next, d, rest, inside, move, walk, sum) (then, e, others, within, again, walk_too, sum_too) =
      let one = move_unique parts orders start asset reach consistent d e next then move again in
      let here : IsWalk parts orders reach next assets other others = subst (λ p. IsWalk parts orders reach p assets other others) (sym one.1) walk_too in
      let both = walk_unique consistent assets next stop other rest others walk here in
      (both.0, omega (arith, one.0, both.1, sum, sum_too))

  -- a walk keeps the number of prices
  pub length-walk : (assets : List ℕ) (start stop : List ℤ) (movement : ℕ) → IsWalk parts orders reach start assets stop movement → length stop ≡ length start
  length-walk [] start stop movement (same, none) = ap length same
  length-walk (asset ∷ assets) start stop movement (next, d, rest, inside, move, walk, sum) =
      length-walk assets next stop rest walk ∙ length-move parts orders reach start asset d next move

  -- the assets of a walk have prices
  pub walk_named : (assets : List ℕ) (start stop : List ℤ) (movement : ℕ) → IsWalk parts orders reach start assets stop movement → All (λ asset. asset < length start) assets
  walk_named [] start stop movement walk k d inside = absurd (omega (arith, inside))
  walk_named (asset ∷ assets) start stop movement (next, e, rest, within, move, walk, sum) zero d inside = within
  walk_named (asset ∷ assets) start stop movement (next, e, rest, within, move, walk, sum) (suc k) d inside =
      subst (λ n. get_or assets k d < n) (length-move parts orders reach start asset e next move) (walk_named assets next stop rest walk k d (omega (arith, inside)))

  -- a move by d leaves each price at most d further from 0 than the bound on all prices
  pub move_within : (prices : List ℤ) (asset d : ℕ) (next : List ℤ) (bound : ℕ) → asset < length prices → IsMove parts orders prices asset reach d next → All (λ p. unsigned_abs p ≤ bound) prices → All (λ p. unsigned_abs p ≤ bound + d) next
  move_within prices asset d next bound within move small =
      let here : unsigned_abs (price_of prices asset) ≤ bound = small asset (pos 0) within in
      let wider : All (λ p. unsigned_abs p ≤ bound + d) prices = λ k e inside. let one : unsigned_abs (get_or prices k e) ≤ bound = small k e inside in omega (arith, one) in
      elim move [
        | inl rise ↦ rw rise.1 (All-set (λ p. unsigned_abs p ≤ bound + d) prices asset (price_of prices asset +ℤ pos d) (omega (arith, ints, here)) wider)
        | inr fall ↦ rw fall.1 (All-set (λ p. unsigned_abs p ≤ bound + d) prices asset (price_of prices asset -ℤ pos d) (omega (arith, ints, here)) wider)
      ]

  -- no move is longer than the reach
  pub move_most : (prices : List ℤ) (asset d : ℕ) (next : List ℤ) → IsMove parts orders prices asset reach d next → d ≤ reach
  move_most prices asset d next move =
      elim move [ inl rise ↦ rise.0.most | inr fall ↦ fall.0.most ]

  -- a walk leaves each price at most its movement further from 0 than the bound on all prices
  pub walk_within : (assets : List ℕ) (start stop : List ℤ) (movement bound : ℕ) → IsWalk parts orders reach start assets stop movement → All (λ p. unsigned_abs p ≤ bound) start → All (λ p. unsigned_abs p ≤ bound + movement) stop
  walk_within [] start stop movement bound (same, none) small =
      rw (same, none) (λ k d inside. let one : unsigned_abs (get_or start k d) ≤ bound = small k d inside in omega (arith, one))
  walk_within (asset ∷ assets) start stop movement bound (next, d, rest, inside, move, walk, sum) small =
      let after = walk_within assets next stop rest (bound + d) walk (move_within start asset d next bound inside move small) in
      λ k e within. let one : unsigned_abs (get_or stop k e) ≤ bound + d + rest = after k e within in omega (arith, one, sum)

  -- the movement of a walk is at most the reach for each move
  pub movement_most : (assets : List ℕ) (start stop : List ℤ) (movement : ℕ) → IsWalk parts orders reach start assets stop movement → movement ≤ reach * length assets
  movement_most [] start stop movement (same, none) = omega (arith, none)
  movement_most (asset ∷ assets) start stop movement (next, d, rest, inside, move, walk, sum) =
      omega (arith, sum, move_most start asset d next move, movement_most assets next stop rest walk)

  -- the movement of a walk is less than the dual value at its start plus the number of orders, and so is its number of moves
  pub movement_bounded : 1 ≤ parts → All IsConsistent orders → 1 ≤ length orders → (assets : List ℕ) (start stop : List ℤ) (movement : ℕ) → IsWalk parts orders reach start assets stop movement
      → (movement < dual_floors orders start + length orders) × (length assets < dual_floors orders start + length orders)
  movement_bounded whole consistent some assets start stop movement walk =
      let falls = floors_fall parts whole orders reach consistent some assets start stop movement walk in
      (omega (arith, falls), omega (arith, falls, movement_at_least parts orders reach assets start stop movement walk))
