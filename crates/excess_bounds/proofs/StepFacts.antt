-- Steps between two amounts: what they ask for together, and which remain as the amounts come nearer.
use Rattle.std.proofs.Common.{◌≡◌, inl, inr, ⊎_elim, ℕ, zero, suc, ◌+◌, ◌-◌, ◌*◌, ◌^◌, ◌≤◌, ◌<◌, ℤ, pos, negsuc, ◌+ℤ◌, ◌*ℤ◌, ◌≤ℤ◌, Bool, true, false, List, [], ◌∷◌, ◌++◌, length, map, take, drop, set, get_or, append_assoc, refl, ap, sym, subst, ◌∙◌, length-append, arith}
use Rattle.std.specs.Prelude.{unsigned_abs, All, int_lt, if◌then◌else◌}
use Rattle.std.specs.Ordering.{int_eq}
use Rattle.std.proofs.Math.Nat.{mul-le-mul_left}
use Rattle.std.proofs.lemmas.Int.{ints}
use Rattle.std.proofs.lemmas.Bool.{cases_Bool, cases_lt}
use Rattle.std.proofs.lemmas.Bool.Decides.{Decides-int_eq}
use Rattle.std.proofs.lemmas.List.{length-map, length-take, drop_more, get_or_at, get_or_default, take_more_set, drop-set-lt}
use Rattle.std.proofs.lemmas.List.Elements.{All-push, All-set}
use Rattle.list_sums.specs.Sums.{int_sum_by}
use Rattle.list_sums.proofs.Products.{*ℤ-add, unsigned_abs-add}
use Rattle.list_sums.proofs.SumLemmas.{int_sum_by_more, int_sum_by-push, int_sum_by-map_same, int_sum_by-le}
use Rattle.weight_rows.specs.Rows.{most_weight}
use Rattle.demand_curve.specs.Demand.{Terms, IsWithinLimits, span, floor_rate, ceil_rate, floor_in, ceil_in}
use Rattle.demand_curve.specs.Curve.{terms}
use Rattle.demand_curve.proofs.RoundingLaws.{at_most_from_times, roundings_enclose_demand}
use Rattle.demand_curve.proofs.Parts.{parts_enclose_demand}
use Rattle.flow_orders.specs.Excess.{low_part_in}
use Rattle.flow_orders.proofs.BookLaws.{low_part-falls}
use Rattle.excess_bounds.specs.declared.columns.Cell.{Cell}
use Rattle.excess_bounds.specs.declared.directions.Direction.{Direction}
use Rattle.excess_bounds.specs.declared.directions.Direction.TheVariants.{Rise, Fall}
use Rattle.excess_bounds.specs.declared.narrowing.Bracket.{Bracket}
use Rattle.excess_bounds.specs.declared.steps.Step.{Step}
use Rattle.excess_bounds.specs.Parts.{part_by_sign}
use Rattle.excess_bounds.specs.Ends.{IsEnd}
use Rattle.excess_bounds.specs.Quotes.{Quote}
use Rattle.excess_bounds.specs.Private.{quote_in, no_quote, low_after}
use Rattle.excess_bounds.specs.Steps.{part_after, looked, closed, still_open, settled_sum, CanLook, IsSmall, IsStep, IsNarrowed, IsBracket, turned, asked_after, CanMove}

-- ---- one step

no_move : (price w : ℤ) → price +ℤ w *ℤ pos 0 ≡ price
no_move price w = omega (arith, ints)

-- a step never asks for more after a greater amount
part_falls : (s : Step) (m d : ℕ) → part_after (m + d) s ≤ℤ part_after m s
part_falls s m d =
    let whole : pos (m + d) ≡ pos m +ℤ pos d = omega (arith, ints) in
    let moved : s.price +ℤ s.weight *ℤ pos (m + d) ≡ s.price +ℤ s.weight *ℤ pos m +ℤ s.weight *ℤ pos d = rw whole (omega (arith, ints, *ℤ-add s.weight (pos m) (pos d))) in
    subst (λ c. low_part_in s.parts s.weight (terms s.curve) c ≤ℤ part_after m s) (sym moved) (low_part-falls s.parts s.weight (terms s.curve) s.curve.within_limits (s.price +ℤ s.weight *ℤ pos m) d)

falls_to : (s : Step) (m n : ℕ) → m ≤ n → part_after n s ≤ℤ part_after m s
falls_to s m n h =
    let whole : m + (n - m) ≡ n = omega (arith, h) in
    rw whole at (part_falls s m (n - m))

-- no order asks for less than the least that its batch maximum allows
least_below : (parts : ℕ) (w : ℤ) (t : Terms) → IsWithinLimits t → (c : ℤ) → part_by_sign w 0 (parts * t.room) ≤ℤ low_part_in parts w t c
least_below parts (pos n) t h c = omega (arith, ints)
least_below parts (negsuc n) t h c = omega (arith, ints, mul-le-mul_left (suc n) (parts_enclose_demand parts t h c).within_room)

-- the demand in parts, rounded down, is at most one part of the demand rounded down and the other parts of the demand rounded up
floor_most : (others : ℕ) (t : Terms) → IsWithinLimits t → (c : ℤ) → floor_in (suc others) t c ≤ floor_rate t c + others * ceil_rate t c
floor_most others t h c =
    let whole = roundings_enclose_demand t h c in
    at_most_from_times (floor_in (suc others) t c) (floor_rate t c + others * ceil_rate t c) (span t)
    (omega (arith, (parts_enclose_demand (suc others) t h c).floor_below, whole.floor_near, mul-le-mul_left others whole.ceil_above))

ceil_least : (others : ℕ) (t : Terms) → IsWithinLimits t → (c : ℤ) → ceil_rate t c + others * floor_rate t c ≤ ceil_in (suc others) t c
ceil_least others t h c =
    let whole = roundings_enclose_demand t h c in
    at_most_from_times (ceil_rate t c + others * floor_rate t c) (ceil_in (suc others) t c) (span t)
    (omega (arith, (parts_enclose_demand (suc others) t h c).ceil_above, whole.ceil_near, mul-le-mul_left others whole.floor_below))

-- the demand in whole units bounds what an order asks for in parts
most_above : (others : ℕ) (w : ℤ) (t : Terms) → IsWithinLimits t → (c : ℤ)
    → low_part_in (suc others) w t c ≤ℤ part_by_sign w (floor_rate t c + others * ceil_rate t c) (ceil_rate t c + others * floor_rate t c)
most_above others (pos n) t h c = omega (arith, ints, mul-le-mul_left n (floor_most others t h c))
most_above others (negsuc n) t h c = omega (arith, ints, mul-le-mul_left (suc n) (ceil_least others t h c))

-- the step of an order before the move
pub first_step : (s : Step) (q : Quote) (parts : ℕ) (w : ℤ) (reach : ℕ) → terms s.curve ≡ q.terms → s.price ≡ q.price → s.parts ≡ parts → s.weight ≡ w
    → s.first ≡ part_by_sign w (floor_rate q.terms q.price + (parts - 1) * ceil_rate q.terms q.price) (ceil_rate q.terms q.price + (parts - 1) * floor_rate q.terms q.price)
    → s.last ≡ part_by_sign w 0 (parts * q.terms.room) → IsSmall s
    → 1 ≤ parts → parts ≤ 256 → unsigned_abs w ≤ most_weight → ((m : ℕ) → m ≤ reach → unsigned_abs (q.price +ℤ w *ℤ pos m) ≤ 2 ^ 78)
    → IsStep 0 reach s × ((m : ℕ) → part_after m s ≡ low_part_in parts w q.terms (q.price +ℤ w *ℤ pos m))
first_step s q parts w reach terms_are price_is parts_are weight_is first_is last_is small some few light stays =
    let part : (m : ℕ) → part_after m s ≡ low_part_in parts w q.terms (q.price +ℤ w *ℤ pos m) = λ m. rw (terms_are, price_is, parts_are, weight_is) refl in
    let limits : IsWithinLimits q.terms = rw terms_are at s.curve.within_limits in
    let one : suc (parts - 1) ≡ parts = omega (arith, some) in
    let most = rw one at (most_above (parts - 1) w q.terms limits q.price) in
    let start : part_after 0 s ≤ℤ s.first = rw (first_is, part 0, no_move q.price w) most in (
      record {
        some = rw parts_are some;
        few = rw parts_are few;
        light = rw weight_is light;
        stays = λ m inside. rw (price_is, weight_is) (stays m inside);
        within = λ m least most. (
          rw (last_is, part m) (least_below parts w q.terms limits (q.price +ℤ w *ℤ pos m)),
          omega (arith, ints, start, falls_to s 0 m (omega arith)),
        );
        small = small;
      },
      part,
    )

pub can_look : (low high amount : ℕ) (s : Step) → amount ≤ high → IsStep low high s → CanLook amount s
can_look low high amount s inside step = record {
  some = step.some;
  few = step.few;
  light = step.light;
  start = rw (no_move s.price s.weight) at (step.stays 0 (omega arith));
  stays = step.stays amount inside;
}

between : (x low high : ℤ) → low ≤ℤ x → x ≤ℤ high → unsigned_abs low ≤ 2 ^ 44 → unsigned_abs high ≤ 2 ^ 44 → unsigned_abs x ≤ 2 ^ 44
between x low high from to least most = omega (arith, ints, from, to, least, most)

pub looked_small : (low high mid : ℕ) (s : Step) → low ≤ mid → mid ≤ high → IsStep low high s → IsSmall (looked mid s)
looked_small low high mid s from to step =
    let here = step.within mid from to in
    record { first = step.small.first; last = step.small.last; here = between (part_after mid s) s.last s.first here.0 here.1 step.small.last step.small.first }

closed_low : (low high mid : ℕ) (s : Step) → low ≤ mid → mid ≤ high → IsStep low high s → IsStep mid high (closed true (looked mid s))
closed_low low high mid s from to step =
    let small = looked_small low high mid s from to step in
    record {
      some = step.some;
      few = step.few;
      light = step.light;
      stays = step.stays;
      within = λ m least most. ((step.within m (omega (arith, from, least)) most).0, falls_to s mid m least);
      small = record { first = small.here; last = small.last; here = small.here };
    }

closed_high : (low high mid : ℕ) (s : Step) → low ≤ mid → mid ≤ high → IsStep low high s → IsStep low mid (closed false (looked mid s))
closed_high low high mid s from to step =
    let small = looked_small low high mid s from to step in
    record {
      some = step.some;
      few = step.few;
      light = step.light;
      stays = λ m inside. step.stays m (omega (arith, inside, to));
      within = λ m least most. (falls_to s m mid most, (step.within m least (omega (arith, most, to))).1);
      small = record { first = small.first; last = small.here; here = small.here };
    }

-- ---- all steps

-- a step that asks for the same at both ends asks for that between them
constant : (low high m : ℕ) (s : Step) → low ≤ m → m ≤ high → IsStep low high s → int_eq s.first s.last ≡ true → part_after m s ≡ s.first
constant low high m s from to step same =
    let both : s.first ≡ s.last = (Decides-int_eq s.first s.last).0 same in
    let here = step.within m from to in
    omega (arith, ints, both, here)

tail : (P : Step → Type 0) (s : Step) (steps : List Step) → All P (s ∷ steps) → All P steps
tail P s steps all = λ k d inside. all (suc k) d (omega (arith, inside))

head : (P : Step → Type 0) (s : Step) (steps : List Step) → All P (s ∷ steps) → P s
head P s steps all = all 0 s (omega arith)

cons : (P : Step → Type 0) (s : Step) (steps : List Step) → P s → All P steps → All P (s ∷ steps)
cons P s steps here rest zero d inside = here
cons P s steps here rest (suc k) d inside = rest k d (omega (arith, inside))

module _ (low high : ℕ) where
  open_sum : (m : ℕ) → low ≤ m → m ≤ high → (steps : List Step) → All (IsStep low high) steps
      → int_sum_by (part_after m) steps ≡ settled_sum steps +ℤ int_sum_by (part_after m) (still_open steps)
  open_sum m from to [] all = refl
  open_sum m from to (s ∷ steps) all =
      let rest = open_sum m from to steps (tail (IsStep low high) s steps all) in
      ⊎_elim
      (λ same. rw same (omega (arith, ints, rest, constant low high m s from to (head (IsStep low high) s steps all) same)))
      (λ other. rw other (omega (arith, ints, rest)))
      (cases_Bool (int_eq s.first s.last))

  open_each : (steps : List Step) → All (IsStep low high) steps → All (IsStep low high) (still_open steps)
  open_each [] all = λ k d inside. absurd (omega (arith, inside))
  open_each (s ∷ steps) all =
      let rest = open_each steps (tail (IsStep low high) s steps all) in
      ⊎_elim
      (λ same. rw same rest)
      (λ other. rw other (cons (IsStep low high) s (still_open steps) (head (IsStep low high) s steps all) rest))
      (cases_Bool (int_eq s.first s.last))

  open_room : (steps : List Step) → All (IsStep low high) steps → unsigned_abs (settled_sum steps) + length (still_open steps) * 2 ^ 44 ≤ length steps * 2 ^ 44
  open_room [] all = omega arith
  open_room (s ∷ steps) all =
      let rest = open_room steps (tail (IsStep low high) s steps all) in
      let small = (head (IsStep low high) s steps all).small.first in
      ⊎_elim
      (λ same. rw same (omega (arith, rest, small, unsigned_abs-add s.first (settled_sum steps))))
      (λ other. rw other (omega (arith, rest)))
      (cases_Bool (int_eq s.first s.last))

mapped : (P Q : Step → Type 0) (f : Step → Step) → ((s : Step) → P s → Q (f s)) → (steps : List Step) → All P steps → All Q (map f steps)
mapped P Q f each [] all = λ k d inside. absurd (omega (arith, inside))
mapped P Q f each (s ∷ steps) all =
    cons Q (f s) (map f steps) (each s (head P s steps all)) (mapped P Q f each steps (tail P s steps all))

same_part : (m : ℕ) (is_low : Bool) (s : Step) → part_after m (closed is_low s) ≡ part_after m s
same_part m true s = refl
same_part m false s = refl

module _ (asked : ℕ → ℤ) where
  -- an order more that asks for the same between both ends
  pub add_settled : (next : ℕ → ℤ) (steps : List Step) (rest : ℤ) (most low high : ℕ) (s : Step) → IsNarrowed asked steps rest most low high → IsStep low high s → s.first ≡ s.last
      → ((m : ℕ) → next m ≡ asked m +ℤ part_after m s) → IsNarrowed next steps (rest +ℤ s.first) (most + 1) low high
  add_settled next steps rest most low high s before step same more = record {
    sum = λ m from to. let here = step.within m from to in omega (arith, ints, more m, before.sum m from to, here, same);
    each = before.each;
    room = omega (arith, before.room, step.small.first, unsigned_abs-add rest s.first);
  }

  -- an order more that may ask for less at the high end
  pub add_open : (next : ℕ → ℤ) (steps : List Step) (rest : ℤ) (most low high : ℕ) (s : Step) → IsNarrowed asked steps rest most low high → IsStep low high s
      → ((m : ℕ) → next m ≡ asked m +ℤ part_after m s) → IsNarrowed next (steps ++ s ∷ []) rest (most + 1) low high
  add_open next steps rest most low high s before step more = record {
    sum = λ m from to. omega (arith, ints, more m, before.sum m from to, int_sum_by-push (part_after m) steps s);
    each = All-push (IsStep low high) steps s before.each step;
    room = omega (arith, before.room, length-append steps (s ∷ []));
  }

  -- the bracket is narrowed, and steps that are closed leave
  closing : (steps : List Step) (rest : ℤ) (most low high mid : ℕ) (is_low : Bool) (from to : ℕ) → IsNarrowed asked steps rest most low high
      → low ≤ from → to ≤ high → ((s : Step) → IsStep low high s → IsStep from to (closed is_low (looked mid s)))
      → IsNarrowed asked (still_open (map (closed is_low) (map (looked mid) steps))) (rest +ℤ settled_sum (map (closed is_low) (map (looked mid) steps))) most from to
  closing steps rest most low high mid is_low from to before least greatest step =
      let looks = map (looked mid) steps in
      let next = map (closed is_low) looks in
      let each : All (IsStep from to) next = mapped (λ s. IsStep from to (closed is_low s)) (IsStep from to) (closed is_low) (λ s h. h) looks (mapped (IsStep low high) (λ s. IsStep from to (closed is_low s)) (looked mid) step steps before.each) in
      let count : length next ≡ length steps = length-map looks (closed is_low) ∙ length-map steps (looked mid) in
      record {
        sum = λ m inside within.
            let all = before.sum m (omega (arith, least, inside)) (omega (arith, greatest, within)) in
            let moved = int_sum_by-map_same (part_after m) (closed is_low) (same_part m is_low) looks ∙ int_sum_by-map_same (part_after m) (looked mid) (λ s. refl) steps in
            omega (arith, ints, all, moved, open_sum from to m inside within next each);
        each = open_each from to next each;
        room = omega (arith, before.room, count, open_room from to next each, unsigned_abs-add rest (settled_sum next));
      }

  -- between both ends, no more is asked for after a greater amount
  asked_falls : (steps : List Step) (rest : ℤ) (most low high m n : ℕ) → IsNarrowed asked steps rest most low high → low ≤ m → m ≤ n → n ≤ high → asked n ≤ℤ asked m
  asked_falls steps rest most low high m n narrowed from later to =
      let sums = int_sum_by-le (part_after n) (part_after m) steps (λ k d inside. falls_to (get_or steps k d) m n later) in
      omega (arith, ints, sums, narrowed.sum m from (omega (arith, later, to)), narrowed.sum n (omega (arith, from, later)) to)

  -- an amount is looked at, and becomes an end of the bracket
  pub one_turn : (bound : ℤ) (reach most : ℕ) (steps next : List Step) (rest sum after : ℤ) (low high mid : ℕ) (is_low : Bool) (b : Bracket)
      → IsNarrowed asked steps rest most low high → IsBracket asked bound reach low high → low < mid → mid < high
      → sum ≡ int_sum_by (part_after mid) steps → is_low ≡ int_lt bound (rest +ℤ sum)
      → next ≡ still_open (map (closed is_low) (map (looked mid) steps)) → after ≡ rest +ℤ settled_sum (map (closed is_low) (map (looked mid) steps))
      → b ≡ (if is_low then record { low = mid; high = high } else record { low = low; high = mid })
      → IsNarrowed asked next after most b.low b.high × IsBracket asked bound reach b.low b.high
  one_turn bound reach most steps next rest sum after low high mid true b narrowed bracket above below sum_is tells next_is after_is b_is =
      let total : asked mid ≡ rest +ℤ sum = rw sum_is (narrowed.sum mid (omega (arith, above)) (omega (arith, below))) in
      rw (b_is, next_is, after_is) (
        closing steps rest most low high mid true mid high narrowed (omega (arith, above)) (omega arith) (λ s h. closed_low low high mid s (omega (arith, above)) (omega (arith, below)) h),
        record {
          some = below;
          most = bracket.most;
          goes_on = λ d one inside.
              ⊎_elim
              (λ before. bracket.goes_on d one (omega (arith, before)))
              (λ past. omega (arith, ints, asked_falls steps rest most low high d mid narrowed (omega (arith, past)) inside (omega (arith, below)), total, tells))
              (cases_lt d (low + 1));
          ends = bracket.ends;
        },
      )
  one_turn bound reach most steps next rest sum after low high mid false b narrowed bracket above below sum_is tells next_is after_is b_is =
      let total : asked mid ≡ rest +ℤ sum = rw sum_is (narrowed.sum mid (omega (arith, above)) (omega (arith, below))) in
      rw (b_is, next_is, after_is) (
        closing steps rest most low high mid false low mid narrowed (omega arith) (omega (arith, below)) (λ s h. closed_high low high mid s (omega (arith, above)) (omega (arith, below)) h),
        record { some = above; most = omega (arith, below, bracket.most); goes_on = bracket.goes_on; ends = inl (omega (arith, ints, total, tells)) },
      )

  pub turn_room : (steps : List Step) (rest : ℤ) (most low high mid : ℕ) (is_low : Bool) → IsNarrowed asked steps rest most low high → low < mid → mid < high
      → unsigned_abs (rest +ℤ settled_sum (map (closed is_low) (map (looked mid) steps))) ≤ most * 2 ^ 44
  turn_room steps rest most low high mid true narrowed above below =
      omega (arith, (closing steps rest most low high mid true mid high narrowed (omega (arith, above)) (omega arith) (λ s h. closed_low low high mid s (omega (arith, above)) (omega (arith, below)) h)).room)
  turn_room steps rest most low high mid false narrowed above below =
      omega (arith, (closing steps rest most low high mid false low mid narrowed (omega arith) (omega (arith, below)) (λ s h. closed_high low high mid s (omega (arith, above)) (omega (arith, below)) h)).room)

  pub all_small : (steps : List Step) (rest : ℤ) (most low high mid : ℕ) → IsNarrowed asked steps rest most low high → low < mid → mid < high → All IsSmall (map (looked mid) steps)
  all_small steps rest most low high mid narrowed above below =
      mapped (IsStep low high) IsSmall (looked mid) (λ s h. looked_small low high mid s (omega (arith, above)) (omega (arith, below)) h) steps narrowed.each

  -- before any order there are no steps
  pub none_narrowed : (high : ℕ) (steps : List Step) → steps ≡ [] → ((m : ℕ) → asked m ≡ pos 0) → IsNarrowed asked steps (pos 0) 0 0 high
  none_narrowed high steps none nothing =
      rw none (record { sum = λ m from to. nothing m; each = λ k d inside. absurd (omega (arith, inside)); room = omega arith })

  -- a bracket whose ends are one grain apart has the end
  pub closed_bracket : (bound : ℤ) (reach low high : ℕ) → IsBracket asked bound reach low high → high ≤ low + 1 → IsEnd asked bound reach high
  closed_bracket bound reach low high b near = record {
    least = omega (arith, b.some);
    most = b.most;
    first = λ d one before. b.goes_on d one (omega (arith, before, near));
    ends = b.ends;
  }

  -- two functions that agree up to the reach have the same end
  pub same_end : (other : ℕ → ℤ) (bound : ℤ) (reach amount : ℕ) → ((m : ℕ) → m ≤ reach → asked m ≡ other m) → IsEnd asked bound reach amount → IsEnd other bound reach amount
  same_end other bound reach amount same end = record {
    least = end.least;
    most = end.most;
    first = λ d one before. rw (same d (omega (arith, before, end.most))) at (end.first d one before);
    ends = ⊎_elim (λ near. inl (rw (same amount end.most) at near)) inr end.ends;
  }

pub with_order : (is_low : Bool) (low mid high : ℕ) (b : Bracket) → b ≡ (if is_low then record { low = mid; high = high } else record { low = low; high = mid }) → low < mid → mid < high → b.low ≤ b.high
with_order true low mid high b is above below = rw is (omega (arith, below))
with_order false low mid high b is above below = rw is (omega (arith, above))

-- ---- the loops

-- the member at a place, in a loop that changes one after the other
pub mixed_at : {X : Type 0} (f : X → X) (xs ys : List X) (i : ℕ) (d : X) → i < length xs → ys ≡ map f (take i xs) ++ drop i xs → get_or ys i d ≡ get_or xs i d
mixed_at f xs ys i d within is =
    let count : length (map f (take i xs)) ≡ i = omega (arith, length-map (take i xs) f, length-take i xs, within) in
    rw (is, drop_more xs i d within) (get_or_at (map f (take i xs)) (get_or xs i d) (drop (i + 1) xs) d i count)

turned_place : (direction : Direction) (c : Cell) → (turned direction c).place ≡ c.place
turned_place Rise c = refl
turned_place Fall c = refl

-- the step of one more cell
pub begin_more : (parts : ℕ) (quotes : List Quote) (direction : Direction) (cells : List Cell) (i : ℕ) (d t : Cell) (reach : ℕ) (steps next : List Step) (s : Step) (q : Quote)
    → 1 ≤ parts → parts ≤ 256 → i < length cells → All (λ c. c.place < length quotes) cells → All (CanMove quotes direction reach) cells
    → IsNarrowed (asked_after parts quotes direction (take i cells)) steps (pos 0) i 0 reach
    → t ≡ turned direction (get_or cells i d) → unsigned_abs t.weight ≤ most_weight → q ≡ get_or quotes t.place q
    → terms s.curve ≡ q.terms → s.price ≡ q.price → s.parts ≡ parts → s.weight ≡ t.weight
    → s.first ≡ part_by_sign t.weight (floor_rate q.terms q.price + (parts - 1) * ceil_rate q.terms q.price) (ceil_rate q.terms q.price + (parts - 1) * floor_rate q.terms q.price)
    → s.last ≡ part_by_sign t.weight 0 (parts * q.terms.room) → IsSmall s
    → next ≡ steps ++ s ∷ []
    → IsNarrowed (asked_after parts quotes direction (take (i + 1) cells)) next (pos 0) (i + 1) 0 reach
begin_more parts quotes direction cells i d t reach steps next s q some few within there moves before t_is light q_is terms_are price_is parts_are weight_is first_is last_is small next_is =
    let c : Cell = get_or cells i d in
    let place : t.place ≡ c.place = ap (λ (x : Cell). x.place) t_is ∙ turned_place direction c in
    let inside : t.place < length quotes = omega (arith, place, there i d within) in
    let quote : q ≡ quote_in quotes t.place = q_is ∙ get_or_default quotes t.place q no_quote inside in
    let stays : (m : ℕ) → m ≤ reach → unsigned_abs (q.price +ℤ t.weight *ℤ pos m) ≤ 2 ^ 78 = λ m h. rw (quote, t_is) (moves i d within m h) in
    let step = first_step s q parts t.weight reach terms_are price_is parts_are weight_is first_is last_is small some few light stays in
    rw next_is
    (add_open (asked_after parts quotes direction (take i cells)) (asked_after parts quotes direction (take (i + 1) cells)) steps (pos 0) i 0 reach s before step.0
    (λ m.
    let part : part_after m s ≡ low_after parts quotes (pos m) (turned direction c) = step.1 m ∙ rw (quote, t_is) refl in
    int_sum_by_more (λ c. low_after parts quotes (pos m) (turned direction c)) cells i d within ∙ ap (λ x. asked_after parts quotes direction (take i cells) m +ℤ x) (sym part)))

-- of the steps before a place, those that are open are kept
pub record IsClosing (is_low : Bool) (steps now : List Step) (kept at : ℕ) (rest : ℤ) : Type 0 where
  pub opened : take kept now ++ still_open (map (closed is_low) (drop at now)) ≡ still_open (map (closed is_low) steps)
  pub sum : rest +ℤ settled_sum (map (closed is_low) (drop at now)) ≡ settled_sum (map (closed is_low) steps)
  pub each : All IsSmall now
  pub following : kept ≤ at
  pub small : unsigned_abs rest ≤ at * 2 ^ 44

closed_small : (is_low : Bool) (s : Step) → IsSmall s → IsSmall (closed is_low s)
closed_small true s h = record { first = h.here; last = h.last; here = h.here }
closed_small false s h = record { first = h.first; last = h.here; here = h.here }

module _ (is_low : Bool) (steps now : List Step) (kept at : ℕ) (rest : ℤ) (s : Step) (within : at < length now) (before : IsClosing is_low steps now kept at rest) (is : s ≡ closed is_low (get_or now at s)) where
  pub next_small : IsSmall s
  next_small = rw is (closed_small is_low (get_or now at s) (before.each at s within))

  pub one_settled : int_eq s.first s.last ≡ true → IsClosing is_low steps now kept (at + 1) (rest +ℤ s.first)
  one_settled same =
      let split = drop_more now at s within in
      let test : int_eq (closed is_low (get_or now at s)).first (closed is_low (get_or now at s)).last ≡ true = rw (← is) same in
      record {
        opened = rw test at (rw split at before.opened);
        sum = let first = ap (λ (x : Step). x.first) is in omega (arith, ints, first, rw test at (rw split at before.sum));
        each = before.each;
        following = omega (arith, before.following);
        small = omega (arith, before.small, next_small.first, unsigned_abs-add rest s.first);
      }

  pub one_open : int_eq s.first s.last ≡ false → IsClosing is_low steps (set now kept s) (kept + 1) (at + 1) rest
  one_open other =
      let split = drop_more now at s within in
      let test : int_eq (closed is_low (get_or now at s)).first (closed is_low (get_or now at s)).last ≡ false = rw (← is) other in
      let inside : kept < length now = omega (arith, before.following, within) in
      record {
        opened = rw (take_more_set now kept s inside, drop-set-lt (at + 1) now kept s (omega (arith, before.following)), append_assoc (take kept now) (s ∷ []) (still_open (map (closed is_low) (drop (at + 1) now))))
            (subst (λ x. take kept now ++ x ∷ still_open (map (closed is_low) (drop (at + 1) now)) ≡ still_open (map (closed is_low) steps)) (sym is) (rw test at (rw split at before.opened)));
        sum = rw (drop-set-lt (at + 1) now kept s (omega (arith, before.following))) (rw test at (rw split at before.sum));
        each = All-set IsSmall now kept s next_small before.each;
        following = omega (arith, before.following);
        small = omega (arith, before.small);
      }
