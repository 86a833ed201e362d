use Rattle.std.proofs.Common.{sym, subst, arith}
use mir.Syntax.{w128}
use Rattle.std.proofs.lemmas.Int.{to_z-of_z}
use Rattle.std.proofs.lemmas.List.{get_or_default}
use Rattle.weight_rows.specs.Rows.{IsWeightVector, IsPricedBy}
use Rattle.even_prices.proofs.Adding.{one_added, all_added, on_the_way}
use Rattle.even_prices.proofs.SideSums.{part_is}
use Rattle.even_prices.proofs.book.add_row.Goals as goal

pub add_leg-requires-clause-near : goal.add_leg-requires-clause-near
add_leg-requires-clause-near c =
    let lawful = subst IsWeightVector (sym c.entries-entry-items.ensures.value) c.entries-entry-items.ensures.lawful in
    let priced = subst (λ r. IsPricedBy r c.args.sums.now) (sym c.entries-entry-items.ensures.value) c.requires.places in
    on_the_way _ (part_is _ _ c.args.curve.now.within_limits _) _ _ _ _ _ lawful (omega (arith, c.loop-entry-test.true)) c.requires.near (priced _ _ c.loop-entry-test.true) c.loop-entry.invariant

pub loop-entry-preserved : goal.loop-entry-preserved
loop-entry-preserved c =
    let priced = subst (λ r. IsPricedBy r c.args.sums.now) (sym c.entries-entry-items.ensures.value) c.requires.places in
    one_added _ _ _ _ _ _ _ c.loop-entry-test.true (get_or_default c.entries-entry-items.result.now c.loop-entry.entry-index _ _ c.loop-entry-test.true) (priced _ _ c.loop-entry-test.true) c.loop-entry.invariant c.add_leg.ensures

pub returns : goal.returns
returns c =
    let lawful = subst IsWeightVector (sym c.entries-entry-items.ensures.value) c.entries-entry-items.ensures.lawful in
    let price = to_z-of_z w128 c.args.price c.ranges.price in
    rw (c.entries-entry-items.ensures.value, price) at (all_added _ (part_is _ _ c.args.curve.now.within_limits _) _ _ _ _ lawful c.loop-entry-test.false c.loop-entry.invariant)
