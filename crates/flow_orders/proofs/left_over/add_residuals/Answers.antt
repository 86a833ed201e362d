use Rattle.std.proofs.Common.{sym, subst, arith}
use Rattle.std.proofs.lemmas.List.{get_or_default}
use Rattle.weight_rows.specs.Rows.{IsWeightVector, IsPricedBy}
use Rattle.flow_orders.specs.Residuals.{IsTradeAdded}
use Rattle.flow_orders.proofs.AddedRows.{one_added, all_added, on_the_way}
use Rattle.flow_orders.proofs.left_over.add_residuals.Goals as goal

pub add_entry-requires-clause-near : goal.add_entry-requires-clause-near
add_entry-requires-clause-near c =
    let lawful = subst IsWeightVector (sym c.entries-entry-items.ensures.value) c.entries-entry-items.ensures.lawful in
    let priced = subst (λ r. IsPricedBy r c.args.residuals.now) (sym c.entries-entry-items.ensures.value) c.requires.places in
    on_the_way _ _ _ _ _ _ lawful c.requires.rate (omega (arith, c.loop-entry-test.true)) c.requires.near (priced _ _ c.loop-entry-test.true) c.loop-entry.invariant

pub loop-entry-preserved : goal.loop-entry-preserved
loop-entry-preserved c =
    let priced = subst (λ r. IsPricedBy r c.args.residuals.now) (sym c.entries-entry-items.ensures.value) c.requires.places in
    one_added c.entries-entry-items.result.now c.args.rate c.args.residuals.now c.loop-entry.entry-index c.loop-entry.residuals _ _ c.loop-entry-test.true (get_or_default c.entries-entry-items.result.now c.loop-entry.entry-index _ _ c.loop-entry-test.true) (priced _ _ c.loop-entry-test.true) c.loop-entry.invariant c.add_entry.ensures

pub returns : goal.returns
returns c =
    let lawful = subst IsWeightVector (sym c.entries-entry-items.ensures.value) c.entries-entry-items.ensures.lawful in
    let added = all_added c.entries-entry-items.result.now c.args.rate c.args.residuals.now _ _ lawful c.loop-entry-test.false c.loop-entry.invariant in
    subst (λ r. IsTradeAdded r c.args.rate c.args.residuals.now c.loop-entry.residuals) c.entries-entry-items.ensures.value added
