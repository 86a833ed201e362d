use Rattle.std.proofs.Common.{sym, ◌∙◌, rules, w32, w64}
use Rattle.std.proofs.lemmas.Int.{to_z-of_z}
use Rattle.weight_rows.proofs.RowLemmas.{weight_in-here, weight_in-later, weight_in-none}
use Rattle.weight_rows.proofs.rows.WeightRow.weight_of.Goals as goal

pub returns-then-entry-asset-clause-value : goal.returns-then-entry-asset-clause-value
returns-then-entry-asset-clause-value c =
    let here = weight_in-here c.as_slice-entry-items.result.now c.loop-entry.entry-index c.args.asset _ c.loop-entry-test.true c.if-entry-asset.true in
    to_z-of_z w64 _ (record { sfits = c.from.type_inv }) ∙ c.from.ensures ∙ to_z-of_z w32 _ (search rules) ∙ sym here ∙ c.loop-entry.invariant

pub loop-entry-preserved : goal.loop-entry-preserved
loop-entry-preserved c =
    sym (weight_in-later c.as_slice-entry-items.result.now c.loop-entry.entry-index c.args.asset _ c.loop-entry-test.true c.if-entry-asset.false) ∙ c.loop-entry.invariant

pub returns-clause-value : goal.returns-clause-value
returns-clause-value c =
    sym (weight_in-none c.as_slice-entry-items.result.now c.loop-entry.entry-index c.args.asset c.loop-entry-test.false) ∙ c.loop-entry.invariant
