use Rattle.std.proofs.Common.{◌≡◌, ◌≤◌, ◌<◌, length, to_z, of_z, ap, ◌∙◌, append-nil, arith}
use Rattle.std.specs.Int.{w64}
use Rattle.std.proofs.lemmas.Int.{to_z-of_z, fits_signed_from_abs}
use Rattle.std.proofs.lemmas.List.{take_all, drop_all}
use Rattle.std.proofs.lemmas.List.Edits.{map_over_more}
use Rattle.list_sums.proofs.Products.{unsigned_abs-add}
use Rattle.flow_orders.proofs.Limits.{orders_fit}
use Rattle.excess_bounds.specs.Steps.{part_after, looked}
use Rattle.excess_bounds.proofs.Sums.{one_more_summed, all_summed}
use Rattle.excess_bounds.proofs.StepFacts.{mixed_at}
use Rattle.excess_bounds.proofs.narrowing.ask.Goals as goal

pub looked-step-requires-clause-can : goal.looked-step-requires-clause-can
looked-step-requires-clause-can c =
    let within : c.loop-at.at < length c.args.steps.now.items = omega (arith, c.loop-at-test.true, c.len-at-end.ensures) in
    let here = c.index.ensures ∙ mixed_at (looked c.args.amount) c.args.steps.now.items c.loop-at.steps.items c.loop-at.at c.index.result.now within c.loop-at.invariant.0 in
    rw here (c.requires.each c.loop-at.at c.index.result.now within)

pub overflow_add-sum : goal.overflow_add-sum
overflow_add-sum c =
    let here : to_z w64 (of_z w64 c.looked-step.result.here) ≡ c.looked-step.result.here = to_z-of_z w64 c.looked-step.result.here (fits_signed_from_abs w64 _ (omega (arith, c.looked-step.ensures.small))) in
    let before = c.loop-at.invariant.1.bound in
    rw here (fits_signed_from_abs w64 _ (omega (arith, before, c.looked-step.ensures.small, c.requires.few, orders_fit, c.loop-at-test.true, c.len-at-end.ensures, unsigned_abs-add (to_z w64 c.loop-at.sum-bits) c.looked-step.result.here)))

pub loop-at-preserved : goal.loop-at-preserved
loop-at-preserved c =
    let within : c.loop-at.at < length c.args.steps.now.items = omega (arith, c.loop-at-test.true, c.len-at-end.ensures) in
    let here = c.index.ensures ∙ mixed_at (looked c.args.amount) c.args.steps.now.items c.loop-at.steps.items c.loop-at.at c.index.result.now within c.loop-at.invariant.0 in
    let part = ap (λ (s : _). s.here) c.looked-step.ensures.step ∙ ap (part_after c.args.amount) here in (
      rw c.looked-step.ensures.step (map_over_more (looked c.args.amount) c.args.steps.now.items c.loop-at.steps.items c.loop-at.at c.index.result.now within c.loop-at.invariant.0 c.index.ensures),
      one_more_summed _ _ _ _ _ _ c.index.result.now (omega arith) c.requires.few within c.loop-at.invariant.1 part c.looked-step.ensures.small,
      c.loop-at.invariant.2,
      c.loop-at.invariant.3,
    )

pub returns : goal.returns
returns c =
    let past : length c.args.steps.now.items ≤ c.loop-at.at = omega (arith, c.loop-at-test.false, c.len-at-end.ensures) in
    let all = c.loop-at.invariant in
    record {
      steps = all.0 ∙ rw (take_all c.loop-at.at c.args.steps.now.items past, drop_all c.loop-at.at c.args.steps.now.items past) (append-nil _);
      sum = all_summed _ _ _ _ _ past all.1;
      bound = omega (arith, all.1.bound, c.loop-at.auto.at-end, c.len-at-end.ensures);
      capacity = all.3;
    }
