-- The attempts at prices: one of them is the first that succeeds, or none does, and each starts where a walk may start.
use Rattle.std.proofs.Common.{◌≡◌, ℕ, suc, ◌+◌, ◌^◌, ◌<◌, ◌≤◌, ◌⊎◌, inl, inr, ⊎_elim, Bool, true, false, cond, eqb, ℤ, pos, List, [], ◌∷◌, ◌++◌, length, refl, ap, sym, subst, ◌∙◌, arith}
use Rattle.std.specs.Prelude.{All, ◌*◌, min, slice_index_or, unsigned_abs}
use Rattle.std.specs.List.{range_with_len}
use Rattle.std.proofs.lemmas.Int.{ints, clamps}
use Rattle.std.proofs.lemmas.Bool.{cases_Bool}
use Rattle.std.proofs.lemmas.Bool.Decides.{eqb_tells}
use Rattle.std.proofs.lemmas.List.{length-map}
use Rattle.std.proofs.lemmas.List.Sums.{sum_by-cons}
use Rattle.std.proofs.lemmas.List.FromFn.{length-range_with_len, get_or-map-range_with_len}
use Rattle.weight_rows.specs.Rows.{weight_in, price_of}
use Rattle.weight_rows.proofs.RowLawProofs.{named_assets_weigh}
use Rattle.demand_curve.specs.Demand.{IsWithin}
use Rattle.flow_orders.specs.Orders.{Order, IsOrder}
use Rattle.flow_orders.specs.Excess.{is_unsettled, spread}
use Rattle.flow_orders.specs.Outcomes.{most_budget, IsUnnamed, step_of, EndsSettled}
use Rattle.joint_prices.specs.Numbers.{within}
use Rattle.joint_prices.specs.Steps.{joint_prices}
use Rattle.canonical_rule.specs.Attempts.{canonical_walk, Attempt, are_settled, joint_price, joint_start, joint_attempts, attempts, end_of_attempt, EndsFirst, NoneSucceeds}
use Rattle.canonical_rule.proofs.Walks.{settled_or_not}

-- ---- the first that succeeds

module _ (parts : ℕ) (orders : List Order) where
  -- attempts have one end
  pub one_end : (tries : List Attempt) (p q : List ℤ) → EndsFirst parts orders tries p → EndsFirst parts orders tries q → p ≡ q
  one_end [] p q first other = absurd first
  one_end (a ∷ tries) p q first other =
      ⊎_elim
      (λ here. ⊎_elim (λ also. here.1 ∙ sym also.1) (λ later. absurd (later.0 here.0)) other)
      (λ after. ⊎_elim (λ also. absurd (after.0 also.0)) (λ later. one_end tries p q after.1 later.1) other)
      first

  -- where one succeeds, it isn't so that none does
  pub not_none : (tries : List Attempt) (p : List ℤ) → EndsFirst parts orders tries p → NoneSucceeds parts orders tries → ⊥
  not_none [] p first none = first
  not_none (a ∷ tries) p first none = ⊎_elim (λ here. none.0 here.0) (λ after. not_none tries p after.1 none.1) first

  -- one succeeds, or none does
  pub ends_or_none : (tries : List Attempt) → ((end : List ℤ) × EndsFirst parts orders tries end) ⊎ NoneSucceeds parts orders tries
  ends_or_none [] = inr tt
  ends_or_none (a ∷ tries) =
      ⊎_elim
      (λ settled. inl (end_of_attempt parts orders a, inl (settled, refl)))
      (λ left. ⊎_elim (λ later. inl (later.0, inr (left, later.1))) (λ none. inr (left, none)) (ends_or_none tries))
      (settled_or_not (length a.from) (is_unsettled orders) (step_of parts orders) (end_of_attempt parts orders a))

  -- attempts one after the other
  pub ends_in_first : (tries bs : List Attempt) (p : List ℤ) → EndsFirst parts orders tries p → EndsFirst parts orders (tries ++ bs) p
  ends_in_first [] bs p first = absurd first
  ends_in_first (a ∷ tries) bs p first = ⊎_elim inl (λ after. inr (after.0, ends_in_first tries bs p after.1)) first

  pub ends_in_second : (tries bs : List Attempt) (p : List ℤ) → NoneSucceeds parts orders tries → EndsFirst parts orders bs p → EndsFirst parts orders (tries ++ bs) p
  ends_in_second [] bs p none second = second
  ends_in_second (a ∷ tries) bs p none second = inr (none.0, ends_in_second tries bs p none.1 second)

  pub none_in_both : (tries bs : List Attempt) → NoneSucceeds parts orders tries → NoneSucceeds parts orders bs → NoneSucceeds parts orders (tries ++ bs)
  none_in_both [] bs none more = more
  none_in_both (a ∷ tries) bs none more = (none.0, none_in_both tries bs none.1 more)

  none_in_second : (tries bs : List Attempt) → NoneSucceeds parts orders (tries ++ bs) → NoneSucceeds parts orders bs
  none_in_second [] bs none = none
  none_in_second (a ∷ tries) bs none = none_in_second tries bs none.1

  -- the last attempt is the one without joint prices
  pub last_fails : (joint : Bool) (start : List ℤ) (budget : ℕ) → NoneSucceeds parts orders (attempts joint orders start budget) → ¬ EndsSettled parts orders start (canonical_walk parts orders start budget)
  last_fails joint start budget none = (none_in_second (joint_attempts joint orders start budget) (record { from = start; budget = budget } ∷ []) none).0

-- ---- where attempts start

-- an asset that no order names has no weight in any
spread_unnamed : (orders : List Order) (asset : ℕ) → All IsOrder orders → IsUnnamed orders asset → spread orders asset ≡ 0
spread_unnamed [] asset each none = refl
spread_unnamed (o ∷ orders) asset each none =
    let rest = spread_unnamed orders asset (λ k d inside. each (suc k) d (omega (arith, inside))) (λ k d inside. none (suc k) d (omega (arith, inside))) in
    let here : unsigned_abs (weight_in o.row asset) ≡ 0 =
    ⊎_elim
    (λ zero_weight. zero_weight.1)
    (λ other. absurd (none 0 o (omega arith) ((named_assets_weigh o.row asset (each 0 o (omega arith)).row).0 (λ is. other.1 (ap unsigned_abs is)))))
    (eqb_tells (unsigned_abs (weight_in o.row asset)) 0) in
    let none_left : 0 + spread orders asset ≡ 0 = omega (arith, rest) in
    sum_by-cons (λ (p : Order). unsigned_abs (weight_in p.row asset)) o orders ∙ ap (λ n. n + spread orders asset) here ∙ none_left

cut_within : (x : ℤ) → IsWithin (2 ^ 60) (within 60 x)
cut_within x = (omega (arith, ints, clamps), omega (arith, ints, clamps))

module _ (orders : List Order) (start : List ℤ) where
  found : List ℤ
  found = joint_prices (are_settled orders (length start)) orders start

  price_within : All (IsWithin (2 ^ 60)) start → (asset : ℕ) → asset < length start → IsWithin (2 ^ 60) (joint_price orders start found asset)
  price_within range asset inside =
      ⊎_elim
      (λ unnamed. rw unnamed (range asset (pos 0) inside))
      (λ named. rw named (cut_within (price_of found asset)))
      (cases_Bool (eqb (spread orders asset) 0))

  start_at : (asset : ℕ) (d : ℤ) → asset < length start → slice_index_or (joint_start orders start) asset d ≡ joint_price orders start found asset
  unfolding joint_start found
  start_at asset d inside =
      get_or-map-range_with_len (joint_price orders start (joint_prices (are_settled orders (length start)) orders start)) 0 (length start) asset asset d inside (omega arith)

  pub joint_count : length (joint_start orders start) ≡ length start
  unfolding joint_start
  joint_count = length-map (range_with_len 0 (length start)) (joint_price orders start (joint_prices (are_settled orders (length start)) orders start)) ∙ length-range_with_len 0 (length start)

  pub joint_range : All (IsWithin (2 ^ 60)) start → All (IsWithin (2 ^ 60)) (joint_start orders start)
  joint_range range k d inside =
      let there : k < length start = omega (arith, inside, joint_count) in
      subst (IsWithin (2 ^ 60)) (sym (start_at k d there)) (price_within range k there)

  joint_unnamed : All IsOrder orders → (asset : ℕ) → asset < length start → IsUnnamed orders asset → price_of (joint_start orders start) asset ≡ price_of start asset
  joint_unnamed each asset inside none =
      start_at asset (pos 0) inside
      ∙ ap (λ n. cond (eqb n 0) (price_of start asset) (within 60 (price_of found asset))) (spread_unnamed orders asset each none)

-- an attempt starts near, and where no order names an asset at its start price
pub record IsFair (orders : List Order) (start : List ℤ) (a : Attempt) : Type 0 where
  pub count : length a.from ≡ length start
  pub range : All (IsWithin (2 ^ 60)) a.from
  pub unnamed : (asset : ℕ) → asset < length start → IsUnnamed orders asset → price_of a.from asset ≡ price_of start asset
  pub few : a.budget ≤ most_budget

abbrev pub AreFair : List Order → List ℤ → List Attempt → Type 0
AreFair orders start [] = Unit {0}
AreFair orders start (a ∷ tries) = IsFair orders start a × AreFair orders start tries

module _ (orders : List Order) (start : List ℤ) (each : All IsOrder orders) (range : All (IsWithin (2 ^ 60)) start) where
  from_start : (budget : ℕ) → budget ≤ most_budget → IsFair orders start (record { from = start; budget = budget })
  from_start budget few = record { count = refl; range = range; unnamed = λ asset inside none. refl; few = few }

  from_joint : (budget : ℕ) → budget ≤ most_budget → IsFair orders start (record { from = joint_start orders start; budget = budget })
  from_joint budget few = record { count = joint_count orders start; range = joint_range orders start range; unnamed = joint_unnamed orders start each; few = few }

  pub attempts_are_fair : (joint : Bool) (budget : ℕ) → budget ≤ most_budget → AreFair orders start (attempts joint orders start budget)
  attempts_are_fair false budget few = (from_start budget few, tt)
  attempts_are_fair true budget few = (from_start (min budget (16 * length start)) (omega (arith, few)), (from_joint budget few, (from_start budget few, tt)))
