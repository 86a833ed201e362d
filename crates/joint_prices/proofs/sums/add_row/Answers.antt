use Rattle.std.proofs.Common.{sym, subst, arith}
use Rattle.std.specs.Int.{w128}
use Rattle.std.proofs.lemmas.Int.{to_z-of_z}
use Rattle.std.proofs.lemmas.List.{get_or_default}
use Rattle.weight_rows.specs.Rows.{IsWeightVector, IsPricedBy}
use Rattle.joint_prices.specs.Sums.{IsRowAdded}
use Rattle.joint_prices.proofs.RowSums.{one_added, all_added, on_the_way}
use Rattle.joint_prices.proofs.sums.add_row.Goals as goal

pub add_entry-requires-clause-small : goal.add_entry-requires-clause-small
add_entry-requires-clause-small c =
    let lawful = subst IsWeightVector (sym c.entries-entry-items.ensures.value) c.entries-entry-items.ensures.lawful in
    let priced = subst (λ r. IsPricedBy r c.args.sums.now) (sym c.entries-entry-items.ensures.value) c.requires.places in
    let f = to_z-of_z w128 c.args.factor c.ranges.factor in
    on_the_way _ c.args.factor _ _ _ _ lawful c.requires.factor (omega (arith, c.loop-entry-test.true)) c.requires.small (priced _ _ c.loop-entry-test.true) (rw f at c.loop-entry.invariant)

pub loop-entry-preserved : goal.loop-entry-preserved
loop-entry-preserved c =
    let priced = subst (λ r. IsPricedBy r c.args.sums.now) (sym c.entries-entry-items.ensures.value) c.requires.places in
    let f = to_z-of_z w128 c.args.factor c.ranges.factor in
    rw f (one_added c.entries-entry-items.result.now c.args.factor c.args.sums.now c.loop-entry.entry-index c.loop-entry.sums _ _ c.loop-entry-test.true (get_or_default c.entries-entry-items.result.now c.loop-entry.entry-index _ _ c.loop-entry-test.true) (priced _ _ c.loop-entry-test.true) (rw f at c.loop-entry.invariant) (rw f at c.add_entry.ensures))

pub returns : goal.returns
returns c =
    let lawful = subst IsWeightVector (sym c.entries-entry-items.ensures.value) c.entries-entry-items.ensures.lawful in
    let f = to_z-of_z w128 c.args.factor c.ranges.factor in
    let added = all_added c.entries-entry-items.result.now c.args.factor c.args.sums.now _ _ lawful c.loop-entry-test.false (rw f at c.loop-entry.invariant) in
    subst (λ r. IsRowAdded r c.args.factor c.args.sums.now c.loop-entry.sums) c.entries-entry-items.ensures.value added
