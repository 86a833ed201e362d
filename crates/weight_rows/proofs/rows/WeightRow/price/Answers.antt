use Rattle.std.proofs.Common.{sym, ◌∙◌, subst, to_z}
use mir.Syntax.{w128}
use Rattle.weight_rows.specs.Rows.{IsWeightVector, IsPricedBy}
use Rattle.weight_rows.proofs.RowLemmas.{IsPriceBefore-none, HasGrown, price_grows}
use Rattle.weight_rows.proofs.rows.WeightRow.price.Goals as goal
use Rattle.weight_rows.proofs.rows.WeightRow.price.Goals.{After-entry_price-sum}

pub loop-entry-init : goal.loop-entry-init
loop-entry-init c = IsPriceBefore-none _ _

pub entry_price-sum-requires : goal.entry_price-sum-requires
entry_price-sum-requires c =
    let row = c.as_slice-entry-items.ensures ∙ c.self.view_is in
    let priced = subst (λ r. IsPricedBy r c.args.prices.now) (sym row) c.requires.priced in
    priced c.loop-entry.entry-index _ c.loop-entry-test.true

grown : (c : After-entry_price-sum) → HasGrown c.as_slice-entry-items.result.now c.args.prices.now c.loop-entry.entry-index (to_z w128 c.loop-entry.sum-bits) c.entry_price-sum.result
grown c =
    let lawful = subst IsWeightVector (sym c.as_slice-entry-items.ensures) c.self.invariant in
    price_grows _ _ _ _ _ _ lawful c.requires.range c.loop-entry-test.true (record { sfits = c.entry_price-sum.type_inv }) c.loop-entry.invariant c.entry_price-sum.ensures

pub overflow_add-sum : goal.overflow_add-sum
overflow_add-sum c = (grown c).fits

pub loop-entry-preserved : goal.loop-entry-preserved
loop-entry-preserved c = (grown c).next
