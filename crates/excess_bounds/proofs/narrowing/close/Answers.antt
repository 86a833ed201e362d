use Rattle.std.proofs.Common.{◌≡◌, ◌+ℤ◌, ◌≤◌, ◌<◌, length, to_z, of_z, sym, ap, ◌∙◌, append-nil, arith}
use Rattle.std.specs.Int.{w64}
use Rattle.std.proofs.lemmas.Int.{ints, to_z-of_z, fits_signed_from_abs}
use Rattle.std.proofs.lemmas.List.{get_or_default, drop_all}
use Rattle.list_sums.proofs.Products.{unsigned_abs-add}
use Rattle.flow_orders.proofs.Limits.{orders_fit}
use Rattle.excess_bounds.specs.Steps.{closed}
use Rattle.excess_bounds.proofs.StepFacts.{next_small, one_settled, one_open}
use Rattle.excess_bounds.proofs.narrowing.close.Goals as goal
use Rattle.excess_bounds.proofs.narrowing.close.Goals.{then-is_closed, else-is_closed}

pub overflow_add-rest : goal.overflow_add-rest
overflow_add-rest c =
    let within : c.loop-at.at < length c.loop-at.steps.items = omega (arith, c.loop-at-test.true, c.len-at-end.ensures, c.loop-at.invariant.1) in
    let before = c.loop-at.invariant.0 in
    let is = c.closed-step.ensures ∙ ap (closed c.args.is_low) (c.index.ensures ∙ get_or_default c.loop-at.steps.items c.loop-at.at c.index.result.now c.closed-step.result within) in
    let small = next_small _ _ _ _ _ _ c.closed-step.result within before is in
    let first : to_z w64 (of_z w64 c.closed-step.result.first) ≡ c.closed-step.result.first = to_z-of_z w64 c.closed-step.result.first (fits_signed_from_abs w64 _ (omega (arith, small.first))) in
    rw first (fits_signed_from_abs w64 _ (omega (arith, before.small, small.first, c.requires.few, orders_fit, c.loop-at-test.true, c.len-at-end.ensures, unsigned_abs-add (to_z w64 c.loop-at.rest-bits) c.closed-step.result.first)))

pub loop-at-preserved : goal.loop-at-preserved
loop-at-preserved c =
    let within : c.loop-at.at < length c.loop-at.steps.items = omega (arith, c.loop-at-test.true, c.len-at-end.ensures, c.loop-at.invariant.1) in
    let before = c.loop-at.invariant.0 in
    let is = c.closed-step.ensures ∙ ap (closed c.args.is_low) (c.index.ensures ∙ get_or_default c.loop-at.steps.items c.loop-at.at c.index.result.now c.closed-step.result within) in
    let small = next_small _ _ _ _ _ _ c.closed-step.result within before is in
    let first : to_z w64 (of_z w64 c.closed-step.result.first) ≡ c.closed-step.result.first = to_z-of_z w64 c.closed-step.result.first (fits_signed_from_abs w64 _ (omega (arith, small.first))) in
    let total = to_z-of_z w64 (to_z w64 c.loop-at.rest-bits +ℤ c.closed-step.result.first)
    (fits_signed_from_abs w64 _ (omega (arith, before.small, small.first, c.requires.few, orders_fit, c.loop-at-test.true, c.len-at-end.ensures, unsigned_abs-add (to_z w64 c.loop-at.rest-bits) c.closed-step.result.first))) in
    elim c.if-is_closed.branch [
      | then-is_closed w ↦ rw (w.steps-is, w.kept-is, w.rest-is, first, total) (
        one_settled _ _ _ _ _ _ c.closed-step.result within before is (sym c.is_closed.ensures ∙ w.if-is_closed.true),
        c.loop-at.invariant.1,
        c.loop-at.invariant.2,
      )
      | else-is_closed w ↦ rw (w.steps-is, w.kept-is, w.rest-is) (
        one_open _ _ _ _ _ _ c.closed-step.result within before is (sym c.is_closed.ensures ∙ w.if-is_closed.false),
        c.loop-at.invariant.1,
        c.loop-at.invariant.2,
      )
    ]

pub returns : goal.returns
returns c =
    let past : length c.loop-at.steps.items ≤ c.loop-at.at = omega (arith, c.loop-at-test.false, c.len-at-end.ensures, c.loop-at.invariant.1) in
    let all = c.loop-at.invariant.0 in
    let rest = drop_all c.loop-at.at c.loop-at.steps.items past in
    record {
      steps = c.truncate.ensures.items ∙ sym (append-nil _) ∙ rw rest at all.opened;
      rest = omega (arith, ints, rw rest at all.sum);
      capacity = c.truncate.ensures.capacity ∙ c.loop-at.invariant.2;
    }
