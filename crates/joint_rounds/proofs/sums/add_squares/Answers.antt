use Rattle.std.proofs.Common.{◌*ℤ◌, sym, subst, arith}
use Rattle.std.specs.Int.{w128}
use Rattle.std.proofs.lemmas.Int.{to_z-of_z}
use Rattle.std.proofs.lemmas.List.{get_or_default}
use Rattle.weight_rows.specs.Rows.{IsWeightVector, IsPricedBy}
use Rattle.joint_rounds.specs.Sums.{IsAdded}
use Rattle.joint_rounds.proofs.RowAdding.{square_by, square_is, light_square_by, none_added, one_added, on_the_way, squares_added}
use Rattle.joint_rounds.proofs.sums.add_squares.Goals as goal

pub loop-entry-init : goal.loop-entry-init
loop-entry-init c = none_added _ _ _

pub add_square-requires-clause-small : goal.add_square-requires-clause-small
add_square-requires-clause-small c =
    let lawful = subst IsWeightVector (sym c.entries-entry-items.ensures.value) c.entries-entry-items.ensures.lawful in
    let priced = subst (λ r. IsPricedBy r c.args.sums.now) (sym c.entries-entry-items.ensures.value) c.requires.places in
    let f = to_z-of_z w128 c.args.factor c.ranges.factor in
    on_the_way _ (square_by c.args.factor) _ _ _ _ lawful (light_square_by c.args.factor c.requires.factor) (omega (arith, c.loop-entry-test.true)) c.requires.small (priced _ _ c.loop-entry-test.true) (rw f at c.loop-entry.invariant)

pub loop-entry-preserved : goal.loop-entry-preserved
loop-entry-preserved c =
    let priced = subst (λ r. IsPricedBy r c.args.sums.now) (sym c.entries-entry-items.ensures.value) c.requires.places in
    let f = to_z-of_z w128 c.args.factor c.ranges.factor in
    rw f (one_added c.entries-entry-items.result.now (square_by c.args.factor) c.args.sums.now c.loop-entry.entry-index c.loop-entry.sums _ _ _ c.loop-entry-test.true (get_or_default c.entries-entry-items.result.now c.loop-entry.entry-index _ _ c.loop-entry-test.true) (priced _ _ c.loop-entry-test.true)
    (square_is c.args.factor _) (rw f at c.loop-entry.invariant) (rw f at c.add_square.ensures))

pub returns : goal.returns
returns c =
    let lawful = subst IsWeightVector (sym c.entries-entry-items.ensures.value) c.entries-entry-items.ensures.lawful in
    let f = to_z-of_z w128 c.args.factor c.ranges.factor in
    let added = squares_added c.entries-entry-items.result.now c.args.factor c.args.sums.now _ _ lawful c.loop-entry-test.false (rw f at c.loop-entry.invariant) in
    subst (λ r. IsAdded (λ w. w *ℤ (w *ℤ c.args.factor)) r c.args.sums.now c.loop-entry.sums) c.entries-entry-items.ensures.value added
