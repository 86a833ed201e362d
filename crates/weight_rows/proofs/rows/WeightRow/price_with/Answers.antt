use Rattle.std.proofs.Common.{set, sym, subst, to_z, of_z, w64}
use Rattle.std.proofs.lemmas.Int.{to_z-of_z}
use Rattle.std.proofs.lemmas.List.Elements.{All-set}
use mir.Syntax.{w128}
use Rattle.weight_rows.specs.Rows.{IsWeightVector, IsPrice}
use Rattle.weight_rows.proofs.RowLemmas.{IsPriceBefore-none, HasGrown, price_grows}
use Rattle.weight_rows.proofs.rows.WeightRow.price_with.Goals as goal
use Rattle.weight_rows.proofs.rows.WeightRow.price_with.Goals.{After-entry_price_with-sum}

pub loop-entry-init : goal.loop-entry-init
loop-entry-init c = IsPriceBefore-none _ _

grown : (c : After-entry_price_with-sum) → HasGrown c.as_slice-entry-items.result.now (set c.args.prices.now c.args.asset (to_z w64 (of_z w64 c.args.price))) c.loop-entry.entry-index (to_z w128 c.loop-entry.sum-bits) c.entry_price_with-sum.result
grown c =
    let lawful = subst IsWeightVector (sym c.as_slice-entry-items.ensures) c.self.invariant in
    let range = All-set IsPrice _ _ _ (subst IsPrice (sym (to_z-of_z w64 _ c.ranges.price)) c.requires.price) c.requires.range in
    price_grows _ _ _ _ _ _ lawful range c.loop-entry-test.true (record { sfits = c.entry_price_with-sum.type_inv }) c.loop-entry.invariant c.entry_price_with-sum.ensures

pub overflow_add-sum : goal.overflow_add-sum
overflow_add-sum c = (grown c).fits

pub loop-entry-preserved : goal.loop-entry-preserved
loop-entry-preserved c = (grown c).next
