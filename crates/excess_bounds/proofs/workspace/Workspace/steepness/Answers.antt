use Rattle.std.proofs.Common.{◌≡◌, length, pos, w64, ap, ◌∙◌, arith}
use Rattle.std.proofs.lemmas.Int.{ints, to_z-of_z}
use Rattle.flow_orders.proofs.Limits.{orders_fit}
use Rattle.excess_bounds.specs.Private.{steepness_in}
use Rattle.excess_bounds.proofs.ColumnSums.{steepness_is}
use Rattle.excess_bounds.proofs.Kept.{columns_count, column_at, is_column}
use Rattle.excess_bounds.proofs.workspace.Workspace.steepness.Goals as goal

pub index-requires : goal.index-requires
index-requires c =
    let count : length c.self.inside.columns.items ≡ length c.self.inside.prices.items = columns_count _ _ _ _ c.self.invariant.0 in
    let there = rw (← c.self.view_is) at c.requires in
    omega (arith, count, there, c.from.ensures)

pub returns-clause-value : goal.returns-clause-value
returns-clause-value c =
    let there = rw (← c.self.view_is) at c.requires in
    let column = column_at _ _ _ _ c.args.asset c.index.result.now c.self.invariant.0 there in
    let at = rw c.from.ensures at c.index.ensures in
    let same = to_z-of_z w64 c.steepness.result (record { sfits = c.steepness.type_inv }) in
    rw (same, ← c.self.view_is) (c.steepness.ensures.value ∙ ap (λ cells. pos (steepness_in cells)) (at ∙ column) ∙ ap pos (steepness_is c.args.asset _))

pub returns-clause-most : goal.returns-clause-most
returns-clause-most c =
    let there = rw (← c.self.view_is) at c.requires in
    let column = column_at _ _ _ _ c.args.asset c.index.result.now c.self.invariant.0 there in
    let at = rw c.from.ensures at c.index.ensures in
    let few = rw (← column, ← at) at (is_column _ _ _ _ c.self.invariant.0 c.args.asset there).few in
    let same = to_z-of_z w64 c.steepness.result (record { sfits = c.steepness.type_inv }) in
    rw same (omega (arith, ints, c.steepness.ensures.most, few, orders_fit))
