-- What an attempt comes to, from a walk in turn of which the same is known; and what a batch comes to.
use Rattle.std.proofs.Common.{◌≡◌, ℕ, Bool, false, inl, ℤ, List, length, ap, subst, sym, ◌∙◌}
use Rattle.flow_orders.specs.Orders.{Order}
use Rattle.flow_orders.specs.Excess.{is_unsettled}
use Rattle.flow_orders.specs.Outcomes.{Skipping, Skipped, step_of, end_of, EndsSettled, skipping_at, are_single}
use Rattle.canonical_rule.specs.Turns.{IsCanonicalWalk, IsCanonicalTrace}
use Rattle.canonical_rule.specs.Attempts.{walks_alone, attempts, Succeeds, end_of_attempt, NoneSucceeds}
use Rattle.canonical_rule.specs.Canonical.{ArePricesOf, IsCanonicalOutcome}
use Rattle.canonical_rule.proofs.Walks.{shortest_is, trace_is, trace_leaves}

module _ (parts : ℕ) (orders : List Order) (start : List ℤ) (budget : ℕ) where
  -- an attempt succeeds if there is a shortest walk that settles all assets, and ends where that does
  pub walk_succeeds : (walk : List ℕ) (end : List ℤ) → IsCanonicalWalk (length start) (is_unsettled orders) (step_of parts orders) start budget walk
      → end ≡ end_of parts orders start walk → Succeeds parts orders (record { from = start; budget = budget }) × (end ≡ end_of_attempt parts orders (record { from = start; budget = budget }))
  walk_succeeds walk end own ends =
      let same = shortest_is (length start) (is_unsettled orders) (step_of parts orders) budget start walk own in
      (subst (EndsSettled parts orders start) same own.settles, ends ∙ ap (end_of parts orders start) same)

  -- the prices at the end of the shortest walk are those of the canonical rule without joint prices
  pub prices_of_walk : (walk : List ℕ) (end : List ℤ) → IsCanonicalWalk (length start) (is_unsettled orders) (step_of parts orders) start budget walk
      → end ≡ end_of parts orders start walk → ArePricesOf (walks_alone parts) false orders start budget end
  prices_of_walk walk end own ends = inl (walk_succeeds walk end own ends)

  -- an attempt fails if the walk in turn of the whole budget leaves an asset unsettled
  pub walk_fails : (walk : List ℕ) → IsCanonicalTrace (length start) (is_unsettled orders) (step_of parts orders) start budget walk
      → ¬ Succeeds parts orders (record { from = start; budget = budget })
  walk_fails walk own settled =
      let same = trace_is (length start) (is_unsettled orders) (step_of parts orders) budget start walk own in
      trace_leaves (length start) (is_unsettled orders) (step_of parts orders) budget start walk own (subst (EndsSettled parts orders start) (sym same) settled)

  -- a skip with joint prices, or without
  pub skip_if_none : (joint : Bool) (s : Skipping) → are_single orders ≡ false → NoneSucceeds parts orders (attempts joint orders start budget)
      → IsCanonicalTrace (length start) (is_unsettled orders) (step_of parts orders) start budget s.trace
      → s ≡ skipping_at parts orders start s.trace → IsCanonicalOutcome (record { parts = parts; joint = joint }) orders start budget (Skipped s)
  skip_if_none joint s wide none own is =
      let same = trace_is (length start) (is_unsettled orders) (step_of parts orders) budget start s.trace own in
      (wide, none, is ∙ ap (skipping_at parts orders start) same)

  -- a skip after the walk in turn of the whole budget, which leaves an asset unsettled, is the canonical outcome without joint prices
  pub skip_of_trace : (s : Skipping) → are_single orders ≡ false → IsCanonicalTrace (length start) (is_unsettled orders) (step_of parts orders) start budget s.trace
      → s ≡ skipping_at parts orders start s.trace → IsCanonicalOutcome (walks_alone parts) orders start budget (Skipped s)
  skip_of_trace s wide own is = skip_if_none false s wide (walk_fails s.trace own, tt) own is
