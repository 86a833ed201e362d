-- A walk in turn is determined by its start and its length, and the function of the budget is the shortest that settles all.
use Rattle.std.proofs.Common.{◌≡◌, ℕ, zero, suc, ◌+◌, ◌-◌, ◌<◌, ◌≤◌, Bool, true, false, List, [], ◌∷◌, ◌++◌, length, get_or, Option, Some, None, ◌⊎◌, inl, inr, ⊎_elim, refl, sym, ap, subst, ◌∙◌, arith}
use Rattle.std.specs.List.{range_with_len}
use Rattle.std.proofs.lemmas.Bool.{cases_Bool, cases_lt, false≢true}
use Rattle.std.proofs.lemmas.List.{length-append, get_or_append_left, get_or-append_right}
use Rattle.std.proofs.lemmas.Option.{same_Some, none-some}
use Rattle.std.proofs.lemmas.List.FromFn.{length-range_with_len, get_or-range_with_len}
use Rattle.flow_orders.specs.Walks.{first_that, walk_end, IsLegal, AreSettled}
use Rattle.canonical_rule.specs.Turns.{visits, walk_in_turn, IsInTurnFrom, IsInTurn, IsCanonicalWalk, AreCanonicalPrices, IsCanonicalTrace}
use Rattle.canonical_rule.proofs.Loops.{go_on, next_after}

no_some : {A : Type 0} {x : A} → None ≡ Some x → ⊥
no_some {x = x} e = none-some x e

same_some : {A : Type 0} {x y : A} → Some x ≡ Some y → x ≡ y
same_some {x = x} {y = y} e = same_Some x y e

-- what is found passes the test
pub first_that-passes : (test : ℕ → Bool) (order : List ℕ) (a : ℕ) → first_that test order ≡ Some a → test a ≡ true
first_that-passes test [] a found = absurd (no_some found)
first_that-passes test (b ∷ order) a found =
    ⊎_elim
    (λ yes_b. let same : b ≡ a = same_some (rw yes_b at found) in subst (λ c. test c ≡ true) same yes_b)
    (λ no_b. first_that-passes test order a (rw no_b at found))
    (cases_Bool (test b))

-- nothing passes in two lists if nothing passes in the list joined from them
pub first_that-append_none : (test : ℕ → Bool) (xs ys : List ℕ) → first_that test (xs ++ ys) ≡ None → (first_that test xs ≡ None) × (first_that test ys ≡ None)
first_that-append_none test [] ys none = (refl, none)
first_that-append_none test (x ∷ xs) ys none =
    ⊎_elim
    (λ yes_x. absurd (no_some (sym (rw yes_x at none))))
    (λ no_x. rw no_x (first_that-append_none test xs ys (rw no_x at none)))
    (cases_Bool (test x))

-- what is found in a joined list is found in one of its parts
pub first_that-append_some : (test : ℕ → Bool) (xs ys : List ℕ) (a : ℕ) → first_that test (xs ++ ys) ≡ Some a → (first_that test xs ≡ Some a) ⊎ (first_that test ys ≡ Some a)
first_that-append_some test [] ys a found = inr found
first_that-append_some test (x ∷ xs) ys a found =
    ⊎_elim
    (λ yes_x. rw yes_x (inl (rw yes_x at found)))
    (λ no_x. rw no_x (first_that-append_some test xs ys a (rw no_x at found)))
    (cases_Bool (test x))

-- if nothing passes in a range of numbers, each of them fails
pub first_that-range_none : (test : ℕ → Bool) (from count a : ℕ) → first_that test (range_with_len from count) ≡ None → from ≤ a → a < from + count → test a ≡ false
first_that-range_none test from zero a none least most = absurd (omega arith)
first_that-range_none test from (suc count) a none least most =
    ⊎_elim
    (λ yes_x. absurd (no_some (sym (rw yes_x at none))))
    (λ no_x. ⊎_elim
    (λ above. first_that-range_none test (from + 1) count a (rw no_x at none) (omega (arith, above)) (omega (arith, most)))
    (λ here. let same : from ≡ a = omega (arith, here, least) in subst (λ c. test c ≡ false) same no_x)
    (cases_lt from a))
    (cases_Bool (test from))

-- what is found in a range is one of its numbers
pub first_that-range_within : (test : ℕ → Bool) (from count a : ℕ) → first_that test (range_with_len from count) ≡ Some a → a < from + count
first_that-range_within test from zero a found = absurd (no_some found)
first_that-range_within test from (suc count) a found =
    ⊎_elim
    (λ yes_x. let same : from ≡ a = same_some (rw yes_x at found) in omega (arith, same))
    (λ no_x. let rest = first_that-range_within test (from + 1) count a (rw no_x at found) in omega (arith, rest))
    (cases_Bool (test from))

-- the first place of a list whose number passes
pub first_that_at : (test : ℕ → Bool) (order : List ℕ) (k d : ℕ) → k < length order → ((j : ℕ) → j < k → test (get_or order j d) ≡ false) → test (get_or order k d) ≡ true → first_that test order ≡ Some (get_or order k d)
first_that_at test [] k d within before here = absurd (omega arith)
first_that_at test (a ∷ order) zero d within before here = rw here
first_that_at test (a ∷ order) (suc k) d within before here =
    rw (before 0 (omega arith)) (first_that_at test order k d (omega (arith, within)) (λ j below. before (suc j) (omega (arith, below))) here)

-- if no place of a list has a number that passes, nothing is found
pub first_that_nowhere : (test : ℕ → Bool) (order : List ℕ) (d : ℕ) → ((j : ℕ) → j < length order → test (get_or order j d) ≡ false) → first_that test order ≡ None
first_that_nowhere test [] d fails = refl
first_that_nowhere test (a ∷ order) d fails =
    rw (fails 0 (omega arith)) (first_that_nowhere test order d (λ j below. fails (suc j) (omega (arith, below))))

-- `order` is an order of n assets: it has each of them, and no others
pub record IsOrderOf (n : ℕ) (order : List ℕ) : Type 0 where
  pub covers : (test : ℕ → Bool) → first_that test order ≡ None → (a : ℕ) → a < n → test a ≡ false
  pub within : (test : ℕ → Bool) (a : ℕ) → first_that test order ≡ Some a → a < n

pub visits-order : (n next : ℕ) → next ≤ n → IsOrderOf n (visits n next)
visits-order n next there = record {
  covers = λ test none b below.
      let parts = first_that-append_none test (range_with_len next (n - next)) (range_with_len 0 next) none in
      ⊎_elim
      (λ before. first_that-range_none test 0 next b parts.1 (omega arith) (omega (arith, before)))
      (λ from. first_that-range_none test next (n - next) b parts.0 from (omega (arith, below, there)))
      (cases_lt b next);
  within = λ test b found.
      ⊎_elim
      (λ high. let below = first_that-range_within test next (n - next) b high in omega (arith, below, there))
      (λ low. let below = first_that-range_within test 0 next b low in omega (arith, below, there))
      (first_that-append_some test (range_with_len next (n - next)) (range_with_len 0 next) b found);
}

-- the asset that is visited k places after `next`: next + k, or that less n
pub visits-ahead : (n next k d : ℕ) → next + k < n → get_or (visits n next) k d ≡ next + k
visits-ahead n next k d ahead =
    get_or_append_left (range_with_len next (n - next)) (range_with_len 0 next) d k (omega (arith, ahead, length-range_with_len next (n - next)))
    ∙ get_or-range_with_len next (n - next) k d (omega (arith, ahead))

pub visits-wrapped : (n next k d : ℕ) → next ≤ n → k < n → n ≤ next + k → get_or (visits n next) k d ≡ next + k - n
visits-wrapped n next k d there within wrapped =
    get_or-append_right (range_with_len next (n - next)) (range_with_len 0 next) (n - next) k d (length-range_with_len next (n - next)) (omega (arith, wrapped, there))
    ∙ get_or-range_with_len 0 next (k - (n - next)) d (omega (arith, wrapped, within, there))
    ∙ omega (arith, wrapped, there)

-- visits go once over each asset
pub length-visits : (n next : ℕ) → next ≤ n → length (visits n next) ≡ n
length-visits n next there = length-append (range_with_len next (n - next)) (range_with_len 0 next) ∙ omega (arith, there, length-range_with_len next (n - next), length-range_with_len 0 next)

module _ {P : Type 0} (n : ℕ) (unsettled : P → ℕ → Bool) (move : P → ℕ → P) where
  -- at most one walk in turn of each length, from one start
  pub one_of_each_length : (next : ℕ) (p : P) (v w : List ℕ) → IsInTurnFrom n unsettled move next p v → IsInTurnFrom n unsettled move next p w → length v ≡ length w → v ≡ w
  one_of_each_length next p [] [] one other same = refl
  one_of_each_length next p [] (b ∷ w) one other same = absurd (omega (arith, same))
  one_of_each_length next p (a ∷ v) [] one other same = absurd (omega (arith, same))
  one_of_each_length next p (a ∷ v) (b ∷ w) one other same =
      let first : b ≡ a = same_some (sym other.0 ∙ one.0) in
      let rest = one_of_each_length (a + 1) (move p a) v w one.1 (subst (λ c. IsInTurnFrom n unsettled move (c + 1) (move p c) w) first other.1) (omega (arith, same)) in
      ap (λ c. c ∷ v) (sym first) ∙ ap (λ l. b ∷ l) rest

  -- the first part of a walk in turn is in turn
  pub prefix_in_turn : (next : ℕ) (p : P) (v w : List ℕ) → IsInTurnFrom n unsettled move next p (v ++ w) → IsInTurnFrom n unsettled move next p v
  prefix_in_turn next p [] w in_turn = tt
  prefix_in_turn next p (a ∷ v) w in_turn = (in_turn.0, prefix_in_turn (a + 1) (move p a) v w in_turn.1)

  -- the rest of a walk in turn is in turn, from the end of its first part
  pub rest_in_turn : (next : ℕ) (p : P) (v w : List ℕ) → IsInTurnFrom n unsettled move next p (v ++ w) → IsInTurnFrom n unsettled move (next_after n unsettled move next v) (walk_end move p v) w
  rest_in_turn next p [] w in_turn = in_turn
  rest_in_turn next p (a ∷ v) w in_turn = rest_in_turn (a + 1) (move p a) v w in_turn.1

  -- a walk in turn, joined with one in turn from its end, is in turn
  pub joined_in_turn : (next : ℕ) (p : P) (v w : List ℕ) → IsInTurnFrom n unsettled move next p v → IsInTurnFrom n unsettled move (next_after n unsettled move next v) (walk_end move p v) w → IsInTurnFrom n unsettled move next p (v ++ w)
  joined_in_turn next p [] w prefix back = back
  joined_in_turn next p (a ∷ v) w prefix back = (prefix.0, joined_in_turn (a + 1) (move p a) v w prefix.1 back)

  -- a walk in turn and a move of the next unsettled asset are in turn
  pub in_turn-push : (next : ℕ) (p : P) (v : List ℕ) (a : ℕ) → IsInTurnFrom n unsettled move next p v → first_that (unsettled (walk_end move p v)) (visits n (next_after n unsettled move next v)) ≡ Some a → IsInTurnFrom n unsettled move next p (v ++ a ∷ [])
  in_turn-push next p v a prefix found = joined_in_turn next p v (a ∷ []) prefix (found, tt)

  -- the next asset is looked for after the one moved last
  pub next_after-push : (next : ℕ) (v : List ℕ) (a : ℕ) → next_after n unsettled move next (v ++ a ∷ []) ≡ a + 1
  next_after-push next [] a = refl
  next_after-push next (b ∷ v) a = next_after-push (b + 1) v a

  -- a walk in turn is valid
  pub in_turn-legal : (next : ℕ) (p : P) (w : List ℕ) → next ≤ n → IsInTurnFrom n unsettled move next p w → IsLegal n unsettled move p w
  in_turn-legal next p [] there_next in_turn = tt
  in_turn-legal next p (a ∷ w) there_next in_turn =
      let there = (visits-order n next there_next).within (unsettled p) a in_turn.0 in
      (there, first_that-passes (unsettled p) (visits n next) a in_turn.0, in_turn-legal (a + 1) (move p a) w (omega (arith, there)) in_turn.1)

  -- after a walk in turn, the asset visited next is one of n, or the one after the last
  pub next_after-there : (next : ℕ) (p : P) (w : List ℕ) → next ≤ n → IsInTurnFrom n unsettled move next p w → next_after n unsettled move next w ≤ n
  next_after-there next p [] there_next in_turn = there_next
  next_after-there next p (a ∷ w) there_next in_turn =
      let there = (visits-order n next there_next).within (unsettled p) a in_turn.0 in
      next_after-there (a + 1) (move p a) w (omega (arith, there)) in_turn.1

  -- if all are settled, no walk in turn has a move
  pub settled_walk_ends : (next : ℕ) (p : P) (a : ℕ) (w : List ℕ) → next ≤ n → IsInTurnFrom n unsettled move next p (a ∷ w) → AreSettled n unsettled p → ⊥
  settled_walk_ends next p a w there_next in_turn settled =
      false≢true (sym (settled a ((visits-order n next there_next).within (unsettled p) a in_turn.0)) ∙ first_that-passes (unsettled p) (visits n next) a in_turn.0)

  -- no walk in turn is longer than one that ends settled
  pub settled_is_longest : (next : ℕ) (p : P) (v w : List ℕ) → next ≤ n → IsInTurnFrom n unsettled move next p v → AreSettled n unsettled (walk_end move p v) → IsInTurnFrom n unsettled move next p w → length w ≤ length v
  settled_is_longest next p [] [] there_next one settled other = omega arith
  settled_is_longest next p [] (b ∷ w) there_next one settled other = absurd (settled_walk_ends next p b w there_next other settled)
  settled_is_longest next p (a ∷ v) [] there_next one settled other = omega arith
  settled_is_longest next p (a ∷ v) (b ∷ w) there_next one settled other =
      let first : b ≡ a = same_some (sym other.0 ∙ one.0) in
      let there = (visits-order n next there_next).within (unsettled p) a one.0 in
      let rest = settled_is_longest (a + 1) (move p a) v w (omega (arith, there)) one.1 settled (subst (λ c. IsInTurnFrom n unsettled move (c + 1) (move p c) w) first other.1) in
      omega (arith, rest)

  -- at most one walk in turn ends settled, so the shortest one is the only one
  pub one_settled_walk : (p : P) (v w : List ℕ) → IsInTurn n unsettled move p v → AreSettled n unsettled (walk_end move p v) → IsInTurn n unsettled move p w → AreSettled n unsettled (walk_end move p w) → v ≡ w
  one_settled_walk p v w one settled other settled_too =
      let there_next : 0 ≤ n = omega arith in
      let most = settled_is_longest 0 p v w there_next one settled other in
      let least = settled_is_longest 0 p w v there_next other settled_too one in
      one_of_each_length 0 p v w one other (omega (arith, most, least))

  -- a walk in turn within the budget that ends settled is the canonical walk
  pub canonical_walk : (p : P) (budget : ℕ) (w : List ℕ) → IsInTurn n unsettled move p w → AreSettled n unsettled (walk_end move p w) → length w ≤ budget → IsCanonicalWalk n unsettled move p budget w
  canonical_walk p budget w in_turn settled within = record {
    in_turn = in_turn;
    settles = settled;
    shortest = λ other also settled_too. settled_is_longest 0 p other w (omega arith) also settled_too in_turn;
    within = within;
  }

  -- the prices that the canonical rule reaches are unique
  pub canonical_prices_unique : (p : P) (budget : ℕ) (one other : P) → AreCanonicalPrices n unsettled move p budget one → AreCanonicalPrices n unsettled move p budget other → one ≡ other
  canonical_prices_unique p budget one other (v, first, one_is) (w, second, other_is) =
      one_is ∙ ap (λ l. walk_end move p l) (one_settled_walk p v w first.in_turn first.settles second.in_turn second.settles) ∙ sym other_is

  -- the trace of a skip is unique
  pub canonical_trace_unique : (p : P) (budget : ℕ) (v w : List ℕ) → IsCanonicalTrace n unsettled move p budget v → IsCanonicalTrace n unsettled move p budget w → v ≡ w
  canonical_trace_unique p budget v w one other =
      one_of_each_length 0 p v w one.in_turn other.in_turn (one.whole ∙ sym other.whole)

  -- a walk in turn of the whole budget that doesn't end settled is the trace of a skip
  pub canonical_trace : (p : P) (budget : ℕ) (w : List ℕ) → IsInTurn n unsettled move p w → length w ≡ budget → ¬ AreSettled n unsettled (walk_end move p w) → IsCanonicalTrace n unsettled move p budget w
  canonical_trace p budget w in_turn whole open_left = record {
    in_turn = in_turn;
    whole = whole;
    none = λ end (v, own, end_is).
        let most = settled_is_longest 0 p v w (omega arith) own.in_turn own.settles in_turn in
        let same = one_of_each_length 0 p v w own.in_turn in_turn (omega (arith, most, whole, own.within)) in
        open_left (subst (λ l. AreSettled n unsettled (walk_end move p l)) same own.settles);
  }

  -- the walk of a budget is in turn
  pub loop-in_turn : (budget next : ℕ) (p : P) → IsInTurnFrom n unsettled move next p (walk_in_turn n unsettled move budget next p)
  loop-in_turn zero next p = tt
  loop-in_turn (suc budget) next p = by_first (first_that (unsettled p) (visits n next)) refl (λ a. loop-in_turn budget (a + 1) (move p a))
    where
      by_first : (found : Option ℕ) → first_that (unsettled p) (visits n next) ≡ found → ((a : ℕ) → IsInTurnFrom n unsettled move (a + 1) (move p a) (walk_in_turn n unsettled move budget (a + 1) (move p a))) → IsInTurnFrom n unsettled move next p (go_on found (λ a. walk_in_turn n unsettled move budget (a + 1) (move p a)))
      by_first None e rest = tt
      by_first (Some a) e rest = (e, rest a)

  -- it keeps its budget
  pub loop-within : (budget next : ℕ) (p : P) → length (walk_in_turn n unsettled move budget next p) ≤ budget
  loop-within zero next p = omega arith
  loop-within (suc budget) next p = by_first (first_that (unsettled p) (visits n next)) (λ a. loop-within budget (a + 1) (move p a))
    where
      by_first : (found : Option ℕ) → ((a : ℕ) → length (walk_in_turn n unsettled move budget (a + 1) (move p a)) ≤ budget) → length (go_on found (λ a. walk_in_turn n unsettled move budget (a + 1) (move p a))) ≤ suc budget
      by_first None rest = omega arith
      by_first (Some a) rest = omega (arith, rest a)

  -- it ends with all settled, or with its budget used
  pub loop-ends : (budget next : ℕ) (p : P) → next ≤ n
      → AreSettled n unsettled (walk_end move p (walk_in_turn n unsettled move budget next p)) ⊎ (length (walk_in_turn n unsettled move budget next p) ≡ budget)
  loop-ends zero next p there_next = inr refl
  loop-ends (suc budget) next p there_next = by_first (first_that (unsettled p) (visits n next)) refl (λ a there. loop-ends budget (a + 1) (move p a) (omega (arith, there)))
    where
      later : ℕ → List ℕ
      later a = walk_in_turn n unsettled move budget (a + 1) (move p a)

      by_first : (found : Option ℕ) → first_that (unsettled p) (visits n next) ≡ found
          → ((a : ℕ) → a < n → AreSettled n unsettled (walk_end move (move p a) (walk_in_turn n unsettled move budget (a + 1) (move p a))) ⊎ (length (walk_in_turn n unsettled move budget (a + 1) (move p a)) ≡ budget))
          → AreSettled n unsettled (walk_end move p (go_on found (λ a. walk_in_turn n unsettled move budget (a + 1) (move p a)))) ⊎ (length (go_on found (λ a. walk_in_turn n unsettled move budget (a + 1) (move p a))) ≡ suc budget)
      by_first None e rest = inl (λ a there. (visits-order n next there_next).covers (unsettled p) e a there)
      by_first (Some a) e rest = ⊎_elim (λ settled. inl settled) (λ whole. inr (omega (arith, whole))) (rest a ((visits-order n next there_next).within (unsettled p) a e))

  -- all are settled, or not: looking for an unsettled one decides it
  pub settled_or_not : (p : P) → AreSettled n unsettled p ⊎ (¬ AreSettled n unsettled p)
  settled_or_not p = by_first (first_that (unsettled p) (visits n 0)) refl
    where
      by_first : (found : Option ℕ) → first_that (unsettled p) (visits n 0) ≡ found → AreSettled n unsettled p ⊎ (¬ AreSettled n unsettled p)
      by_first None e = inl ((visits-order n 0 (omega arith)).covers (unsettled p) e)
      by_first (Some a) e = inr (λ settled. false≢true (sym (settled a ((visits-order n 0 (omega arith)).within (unsettled p) a e)) ∙ first_that-passes (unsettled p) (visits n 0) a e))

  -- the walk of a budget is the shortest that settles all assets, or the trace of a skip
  pub loop-own : (budget : ℕ) (p : P) → IsCanonicalWalk n unsettled move p budget (walk_in_turn n unsettled move budget 0 p) ⊎ IsCanonicalTrace n unsettled move p budget (walk_in_turn n unsettled move budget 0 p)
  loop-own budget p =
      let walk = walk_in_turn n unsettled move budget 0 p in
      let in_turn = loop-in_turn budget 0 p in
      ⊎_elim
      (λ settled. inl (canonical_walk p budget walk in_turn settled (loop-within budget 0 p)))
      (λ not_settled. inr (canonical_trace p budget walk in_turn
      (⊎_elim (λ settled. absurd (not_settled settled)) (λ whole. whole) (loop-ends budget 0 p (omega arith)))
      not_settled))
      (settled_or_not (walk_end move p walk))

  -- the shortest walk that settles all is the walk of the budget
  pub shortest_is : (budget : ℕ) (p : P) (w : List ℕ) → IsCanonicalWalk n unsettled move p budget w → w ≡ walk_in_turn n unsettled move budget 0 p
  shortest_is budget p w own =
      ⊎_elim
      (λ walk. one_settled_walk p w (walk_in_turn n unsettled move budget 0 p) own.in_turn own.settles walk.in_turn walk.settles)
      (λ trace. absurd (trace.none (walk_end move p w) (w, own, refl)))
      (loop-own budget p)

  -- the trace of a skip is the walk of the budget
  pub trace_is : (budget : ℕ) (p : P) (w : List ℕ) → IsCanonicalTrace n unsettled move p budget w → w ≡ walk_in_turn n unsettled move budget 0 p
  trace_is budget p w own =
      ⊎_elim
      (λ walk. absurd (own.none (walk_end move p (walk_in_turn n unsettled move budget 0 p)) (walk_in_turn n unsettled move budget 0 p, walk, refl)))
      (λ trace. canonical_trace_unique p budget w (walk_in_turn n unsettled move budget 0 p) own trace)
      (loop-own budget p)

  -- the trace of a skip leaves some asset unsettled
  pub trace_leaves : (budget : ℕ) (p : P) (w : List ℕ) → IsCanonicalTrace n unsettled move p budget w → ¬ AreSettled n unsettled (walk_end move p w)
  trace_leaves budget p w own settled = own.none (walk_end move p w) (w, canonical_walk p budget w own.in_turn settled (omega (arith, own.whole)), refl)

  -- where the walk of the budget settles all assets it is the shortest that does, and else the trace of a skip
  pub shortest_where : (budget : ℕ) (p : P) → AreSettled n unsettled (walk_end move p (walk_in_turn n unsettled move budget 0 p)) → IsCanonicalWalk n unsettled move p budget (walk_in_turn n unsettled move budget 0 p)
  shortest_where budget p settled = canonical_walk p budget (walk_in_turn n unsettled move budget 0 p) (loop-in_turn budget 0 p) settled (loop-within budget 0 p)

  pub trace_where : (budget : ℕ) (p : P) → ¬ AreSettled n unsettled (walk_end move p (walk_in_turn n unsettled move budget 0 p)) → IsCanonicalTrace n unsettled move p budget (walk_in_turn n unsettled move budget 0 p)
  trace_where budget p left =
      ⊎_elim (λ walk. absurd (left walk.settles)) (λ trace. trace) (loop-own budget p)

  -- the first asset that is unsettled, if those visited before it are settled
  pub next_found : (next : ℕ) (p : P) (k d : ℕ) → next ≤ n → k < n → ((j : ℕ) → j < k → unsettled p (get_or (visits n next) j d) ≡ false) → unsettled p (get_or (visits n next) k d) ≡ true → first_that (unsettled p) (visits n next) ≡ Some (get_or (visits n next) k d)
  next_found next p k d there within before here = first_that_at (unsettled p) (visits n next) k d (omega (arith, within, length-visits n next there)) before here

  -- if n assets visited one after the other are settled, all are
  pub all_found_settled : (next : ℕ) (p : P) (d : ℕ) → next ≤ n → ((j : ℕ) → j < n → unsettled p (get_or (visits n next) j d) ≡ false) → AreSettled n unsettled p
  all_found_settled next p d there each =
      let count = length-visits n next there in
      (visits-order n next there).covers (unsettled p) (first_that_nowhere (unsettled p) (visits n next) d (λ j inside. each j (omega (arith, inside, count))))
