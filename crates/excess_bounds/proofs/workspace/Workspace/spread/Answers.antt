use Rattle.std.proofs.Common.{◌≡◌, length, pos, w64, ap, ◌∙◌, arith}
use Rattle.std.proofs.lemmas.Int.{ints, to_z-of_z}
use Rattle.flow_orders.proofs.Limits.{orders_fit}
use Rattle.excess_bounds.specs.Private.{spread_in}
use Rattle.excess_bounds.proofs.ColumnSums.{spread_is}
use Rattle.excess_bounds.proofs.Kept.{columns_count, column_at, is_column}
use Rattle.excess_bounds.proofs.workspace.Workspace.spread.Goals as goal

pub index-requires : goal.index-requires
index-requires c =
    let count : length c.self.inside.columns.items ≡ length c.self.inside.prices.items = columns_count _ _ _ _ c.self.invariant.0 in
    let there = rw (← c.self.view_is) at c.requires in
    omega (arith, count, there, c.from.ensures)

pub returns-clause-value : goal.returns-clause-value
returns-clause-value c =
    let there = rw (← c.self.view_is) at c.requires in
    let column = column_at _ _ _ _ c.args.asset c.index.result.now c.self.invariant.0 there in
    let at = rw c.from.ensures at c.index.ensures in
    let same = to_z-of_z w64 c.spread.result (record { sfits = c.spread.type_inv }) in
    rw (same, ← c.self.view_is) (c.spread.ensures.value ∙ ap (λ cells. pos (spread_in cells)) (at ∙ column) ∙ ap pos (spread_is c.args.asset _))

pub returns-clause-most : goal.returns-clause-most
returns-clause-most c =
    let there = rw (← c.self.view_is) at c.requires in
    let column = column_at _ _ _ _ c.args.asset c.index.result.now c.self.invariant.0 there in
    let at = rw c.from.ensures at c.index.ensures in
    let few = rw (← column, ← at) at (is_column _ _ _ _ c.self.invariant.0 c.args.asset there).few in
    let same = to_z-of_z w64 c.spread.result (record { sfits = c.spread.type_inv }) in
    rw same (omega (arith, ints, c.spread.ensures.most, few, orders_fit))
