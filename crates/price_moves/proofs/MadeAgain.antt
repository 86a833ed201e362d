-- The loop that makes the moves of a walk again.
use Rattle.std.proofs.Common.{◌≡◌, ℕ, suc, ◌+◌, ◌^◌, ◌≤◌, ◌<◌, true, ℤ, List, [], ◌∷◌, ◌++◌, length, take, drop, get_or, refl, ap, sym, subst, ◌∙◌, arith}
use Rattle.std.specs.Prelude.{All}
use Rattle.std.proofs.Math.Seq.{take-suc}
use Rattle.std.proofs.lemmas.List.{length-take, take_all, take-append-drop}
use Rattle.demand_curve.specs.Demand.{IsWithin}
use Rattle.flow_orders.specs.Orders.{Order}
use Rattle.flow_orders.specs.Excess.{is_unsettled}
use Rattle.flow_orders.specs.Outcomes.{step_of, end_of, IsLegalFrom}
use Rattle.flow_orders.proofs.WalkParts.{walk_end-push, legal-append, legal_parts}
use Rattle.flow_orders.proofs.Moving.{AreWithin, has_walked}
use Rattle.price_moves.specs.Retracing.{IsFirstIllegal, IsMovable}
use Rattle.price_moves.proofs.Near.{legal_near}

-- a prefix of one place more has one asset more
take_more : (walk : List ℕ) (k : ℕ) → k < length walk → take (k + 1) walk ≡ take k walk ++ get_or walk k 0 ∷ []
take_more walk k inside =
    let one : k + 1 ≡ suc k = omega arith in
    ap (λ n. take n walk) one ∙ take-suc walk k 0 inside

-- the moves before a place are valid and were made
pub record IsRetracing (parts : ℕ) (orders : List Order) (start : List ℤ) (walk : List ℕ) (now : List Order) (prices : List ℤ) (place : ℕ) : Type 0 where
  pub same : now ≡ orders
  pub legal : IsLegalFrom parts orders start (take place walk)
  pub end : prices ≡ end_of parts orders start (take place walk)

pub none_retraced : (parts : ℕ) (orders : List Order) (start : List ℤ) (walk : List ℕ) → IsRetracing parts orders start walk orders start 0
none_retraced parts orders start walk = record { same = refl; legal = tt; end = refl }

module _ (parts : ℕ) (orders : List Order) (start : List ℤ) (walk : List ℕ) (now : List Order) (prices : List ℤ) (place : ℕ) (so_far : IsRetracing parts orders start walk now prices place) where
  count_so_far : length prices ≡ length start
  count_so_far = ap length so_far.end ∙ (has_walked parts orders (length start) start (take place walk) refl so_far.legal).count

  -- the prices are near enough for a move
  pub near_so_far : All (IsWithin (2 ^ 60)) start → length walk ≤ 65536 → AreWithin (2 ^ 60 + 2 ^ 61) prices
  near_so_far range few = subst (AreWithin (2 ^ 60 + 2 ^ 61)) (sym so_far.end) (legal_near parts orders start (take place walk) range so_far.legal (omega (arith, few, length-take place walk)))

  -- one move more
  pub one_more_retraced : (after : List Order) (moved : List ℤ) → place < length walk → IsMovable now prices (get_or walk place 0) → after ≡ now → moved ≡ step_of parts now prices (get_or walk place 0)
      → IsRetracing parts orders start walk after moved (place + 1)
  one_more_retraced after moved inside movable same move =
      let a = get_or walk place 0 in
      let n = length start in
      let own : IsMovable orders (end_of parts orders start (take place walk)) a = subst (λ p. IsMovable orders p a) so_far.end (subst (λ o. IsMovable o prices a) so_far.same movable) in
      let below : a < n = omega (arith, movable.0, count_so_far) in
      let more = sym (take_more walk place inside) in
      record {
        same = same ∙ so_far.same;
        legal = subst (IsLegalFrom parts orders start) more (legal-append n (is_unsettled orders) (step_of parts orders) start (take place walk) (a ∷ []) so_far.legal (below, own.1, tt));
        end = move ∙ ap (λ o. step_of parts o prices a) so_far.same ∙ ap (λ p. step_of parts orders p a) so_far.end ∙ sym (walk_end-push n (is_unsettled orders) (step_of parts orders) start (take place walk) a) ∙ ap (end_of parts orders start) more;
      }

  -- the move at this place isn't valid
  pub stops : place < length walk → ¬ IsMovable now prices (get_or walk place 0) → IsFirstIllegal parts orders start walk place
  stops inside none = record {
    inside = inside;
    before = so_far.legal;
    refused = λ legal.
        let a = get_or walk place 0 in
        let parts = (legal_parts (length start) (is_unsettled orders) (step_of parts orders) start (take place walk) (a ∷ []) (subst (IsLegalFrom parts orders start) (take_more walk place inside) legal)).1 in
        let own : is_unsettled orders prices a ≡ true = subst (λ p. is_unsettled orders p a ≡ true) (sym so_far.end) parts.1 in
        none (omega (arith, parts.0, count_so_far), subst (λ o. is_unsettled o prices a ≡ true) (sym so_far.same) own);
  }

  -- all moves are made
  pub all_retraced : length walk ≤ place → IsLegalFrom parts orders start walk × (prices ≡ end_of parts orders start walk)
  all_retraced past =
      let all = take_all place walk past in
      (subst (IsLegalFrom parts orders start) all so_far.legal, so_far.end ∙ ap (end_of parts orders start) all)

-- if a walk has a first move that isn't valid, the walk isn't valid
pub illegal_whole : (parts : ℕ) (orders : List Order) (start : List ℤ) (walk : List ℕ) (place : ℕ) → IsFirstIllegal parts orders start walk place → ¬ IsLegalFrom parts orders start walk
illegal_whole parts orders start walk place first legal =
    let whole = subst (IsLegalFrom parts orders start) (sym (take-append-drop (place + 1) walk)) legal in
    first.refused (legal_parts (length start) (is_unsettled orders) (step_of parts orders) start (take (place + 1) walk) (drop (place + 1) walk) whole).0
