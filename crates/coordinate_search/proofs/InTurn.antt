-- The loop that searches a book for prices, asset by asset in turn.
use Rattle.std.proofs.Common.{◌≡◌, ℕ, suc, ◌+◌, ◌-◌, ◌^◌, ◌≤◌, ◌<◌, ⊎_elim, Bool, true, false, ℤ, pos, List, [], ◌∷◌, ◌++◌, length, Option, Some, None, refl, ap, sym, subst, ◌∙◌, arith}
use Rattle.std.specs.Prelude.{All, unsigned_abs}
use Rattle.std.specs.List.{range_with_len}
use Rattle.std.proofs.lemmas.Bool.{cases_Bool, false≢true}
use Rattle.std.proofs.lemmas.Option.{none-some}
use Rattle.demand_curve.specs.Demand.{IsWithin}
use Rattle.weight_rows.specs.Rows.{price_of}
use Rattle.flow_orders.specs.Orders.{Order}
use Rattle.flow_orders.specs.Excess.{is_unsettled}
use Rattle.flow_orders.specs.Walks.{first_that}
use Rattle.canonical_rule.specs.Turns.{visits, IsInTurn, IsCanonicalWalk, IsCanonicalTrace}
use Rattle.flow_orders.specs.Outcomes.{step_of, end_of, IsLegalFrom, EndsSettled}
use Rattle.canonical_rule.proofs.Loops.{next_after}
use Rattle.canonical_rule.proofs.Walks.{visits-order, in_turn-push, next_after-push, in_turn-legal, next_after-there, canonical_walk, canonical_trace, first_that-passes}
use Rattle.flow_orders.proofs.WalkParts.{walk_end-push}
use Rattle.flow_orders.proofs.Moving.{AreWithin, has_walked}
use Rattle.price_moves.proofs.Near.{legal_near}

-- ---- the first number that passes a test

-- if a number fails, the search continues after it
pub skip_failed : (test : ℕ → Bool) (a end : ℕ) → a < end → test a ≡ false
    → first_that test (range_with_len a (end - a)) ≡ first_that test (range_with_len (a + 1) (end - (a + 1)))
skip_failed test a end inside fails =
    let left : end - a ≡ suc (end - (a + 1)) = omega (arith, inside) in
    rw (left, fails) refl

-- if a number passes, it is found
pub found_here : (test : ℕ → Bool) (a end : ℕ) → a < end → test a ≡ true → first_that test (range_with_len a (end - a)) ≡ Some a
found_here test a end inside passes =
    let left : end - a ≡ suc (end - (a + 1)) = omega (arith, inside) in
    rw (left, passes) refl

-- if no number is left, none is found
pub none_left : (test : ℕ → Bool) (a end : ℕ) → end ≤ a → first_that test (range_with_len a (end - a)) ≡ None
none_left test a end past =
    let none : end - a ≡ 0 = omega (arith, past) in
    rw none refl

-- what is found in the first of two lists is found in the list joined from them
pub found_before : (test : ℕ → Bool) (xs ys : List ℕ) (a : ℕ) → first_that test xs ≡ Some a → first_that test (xs ++ ys) ≡ Some a
found_before test [] ys a found = absurd (none-some a found)
found_before test (x ∷ xs) ys a found =
    ⊎_elim
    (λ yes_x. rw yes_x (rw yes_x at found))
    (λ no_x. rw no_x (found_before test xs ys a (rw no_x at found)))
    (cases_Bool (test x))

pub found_after : (test : ℕ → Bool) (xs ys : List ℕ) → first_that test xs ≡ None → first_that test (xs ++ ys) ≡ first_that test ys
found_after test [] ys none = refl
found_after test (x ∷ xs) ys none =
    ⊎_elim
    (λ yes_x. absurd (none-some x (sym (rw yes_x at none))))
    (λ no_x. rw no_x (found_after test xs ys (rw no_x at none)))
    (cases_Bool (test x))

-- ---- a walk

-- what a search for the next unsettled asset returns
abbrev pub IsNext : List Order → List ℤ → ℕ → Option ℕ → Type 0
IsNext orders prices next found = found ≡ first_that (is_unsettled orders prices) (visits (length prices) next)

-- the next unsettled asset is the first from the place on, else the first before it
pub next_from : (orders : List Order) (prices : List ℤ) (next asset : ℕ) (found : Option ℕ)
    → found ≡ first_that (is_unsettled orders prices) (range_with_len next (length prices - next)) → found ≡ Some asset → IsNext orders prices next (Some asset)
next_from orders prices next asset found first some =
    sym (found_before (is_unsettled orders prices) (range_with_len next (length prices - next)) (range_with_len 0 next) asset (sym first ∙ some))

pub next_before : (orders : List Order) (prices : List ℤ) (next : ℕ) (found other : Option ℕ)
    → found ≡ first_that (is_unsettled orders prices) (range_with_len next (length prices - next)) → found ≡ None
    → other ≡ first_that (is_unsettled orders prices) (range_with_len 0 (next - 0)) → IsNext orders prices next other
next_before orders prices next found other first none second =
    let all : next - 0 ≡ next = omega arith in
    second ∙ ap (λ n. first_that (is_unsettled orders prices) (range_with_len 0 n)) all ∙ sym (found_after (is_unsettled orders prices) (range_with_len next (length prices - next)) (range_with_len 0 next) (sym first ∙ none))

-- the moves so far are a walk in turn, and the next asset is looked for after the one moved last
pub record IsSearching (parts : ℕ) (orders : List Order) (start : List ℤ) (now : List Order) (prices : List ℤ) (next : ℕ) (walk : List ℕ) : Type 0 where
  pub same : now ≡ orders
  pub in_turn : IsInTurn (length start) (is_unsettled orders) (step_of parts orders) start walk
  pub end : prices ≡ end_of parts orders start walk
  pub following : next ≡ next_after (length start) (is_unsettled orders) (step_of parts orders) 0 walk

module _ (parts : ℕ) (orders : List Order) (start : List ℤ) where
  -- before the first move the walk is empty
  pub none_moved : (walk : List ℕ) → walk ≡ [] → IsSearching parts orders start orders start 0 walk
  none_moved walk empty = rw empty (record { same = refl; in_turn = tt; end = refl; following = refl })

module _ (parts : ℕ) (orders : List Order) (start : List ℤ) (now : List Order) (prices : List ℤ) (next : ℕ) (walk : List ℕ) (so_far : IsSearching parts orders start now prices next walk) where
  pub legal_so_far : IsLegalFrom parts orders start walk
  legal_so_far = in_turn-legal (length start) (is_unsettled orders) (step_of parts orders) 0 start walk (omega arith) so_far.in_turn

  count_so_far : length prices ≡ length start
  count_so_far = ap length so_far.end ∙ (has_walked parts orders (length start) start walk refl legal_so_far).count

  -- the next asset is looked for from one that is there, or from after the last one
  pub next_so_far : next ≤ length prices
  next_so_far =
      let there = next_after-there (length start) (is_unsettled orders) (step_of parts orders) 0 start walk (omega arith) so_far.in_turn in
      omega (arith, there, so_far.following, count_so_far)

  -- the price of an asset is near enough for a move
  pub near_so_far : (asset : ℕ) → All (IsWithin (2 ^ 60)) start → length walk ≤ 65536 → asset < length prices → unsigned_abs (price_of prices asset) ≤ 2 ^ 60 + 2 ^ 61
  near_so_far asset range few inside =
      subst (AreWithin (2 ^ 60 + 2 ^ 61)) (sym so_far.end) (legal_near parts orders start walk range legal_so_far few) asset (pos 0) inside

  -- what is found is the next asset of the walk in turn
  found_in_turn : (found : Option ℕ) → IsNext now prices next found
      → first_that (is_unsettled orders (end_of parts orders start walk)) (visits (length start) (next_after (length start) (is_unsettled orders) (step_of parts orders) 0 walk)) ≡ found
  found_in_turn found first =
      subst (λ p. first_that (is_unsettled orders p) (visits (length start) (next_after (length start) (is_unsettled orders) (step_of parts orders) 0 walk)) ≡ found) so_far.end
      (subst (λ k. first_that (is_unsettled orders prices) (visits (length start) k) ≡ found) so_far.following
      (subst (λ n. first_that (is_unsettled orders prices) (visits n next) ≡ found) count_so_far
      (subst (λ o. first_that (is_unsettled o prices) (visits (length prices) next) ≡ found) so_far.same (sym first))))

  module _ (found : Option ℕ) (first : IsNext now prices next found) where
    -- an asset that is found is unsettled
    pub found_unsettled : (asset : ℕ) → found ≡ Some asset → is_unsettled now prices asset ≡ true
    found_unsettled asset some = first_that-passes (is_unsettled now prices) (visits (length prices) next) asset (sym first ∙ some)

    -- one move more
    pub one_more_moved : (after : List Order) (moved : List ℤ) (asset : ℕ) → found ≡ Some asset → after ≡ now → moved ≡ step_of parts now prices asset
        → IsSearching parts orders start after moved (asset + 1) (walk ++ asset ∷ [])
    one_more_moved after moved asset some same move =
        let n = length start in
        record {
          same = same ∙ so_far.same;
          in_turn = in_turn-push n (is_unsettled orders) (step_of parts orders) 0 start walk asset so_far.in_turn (found_in_turn found first ∙ some);
          end = move ∙ ap (λ o. step_of parts o prices asset) so_far.same ∙ ap (λ p. step_of parts orders p asset) so_far.end ∙ sym (walk_end-push n (is_unsettled orders) (step_of parts orders) start walk asset);
          following = sym (next_after-push n (is_unsettled orders) (step_of parts orders) 0 walk asset);
        }

    -- if none is found, all are settled
    pub ends_settled : (budget : ℕ) → found ≡ None → length walk ≤ budget → IsCanonicalWalk (length start) (is_unsettled orders) (step_of parts orders) start budget walk
    ends_settled budget none within =
        let n = length start in
        let there = next_after-there n (is_unsettled orders) (step_of parts orders) 0 start walk (omega arith) so_far.in_turn in
        let settled = (visits-order n (next_after n (is_unsettled orders) (step_of parts orders) 0 walk) there).covers (is_unsettled orders (end_of parts orders start walk)) (found_in_turn found first ∙ none) in
        canonical_walk n (is_unsettled orders) (step_of parts orders) start budget walk so_far.in_turn settled within

    -- if one is found, not all are settled
    unsettled_left : (asset : ℕ) → found ≡ Some asset → ¬ EndsSettled parts orders start walk
    unsettled_left asset some settled =
        let n = length start in
        let following = next_after n (is_unsettled orders) (step_of parts orders) 0 walk in
        let there = next_after-there n (is_unsettled orders) (step_of parts orders) 0 start walk (omega arith) so_far.in_turn in
        let here = found_in_turn found first ∙ some in
        let test = is_unsettled orders (end_of parts orders start walk) in
        let inside = (visits-order n following there).within test asset here in
        false≢true (sym (settled asset inside) ∙ first_that-passes test (visits n following) asset here)

    pub ends_spent : (budget asset : ℕ) → found ≡ Some asset → length walk ≡ budget
        → IsCanonicalTrace (length start) (is_unsettled orders) (step_of parts orders) start budget walk × (¬ EndsSettled parts orders start walk)
    ends_spent budget asset some whole =
        let unsettled = unsettled_left asset some in
        (canonical_trace (length start) (is_unsettled orders) (step_of parts orders) start budget walk so_far.in_turn whole unsettled, unsettled)
