use Rattle.std.proofs.Common.{◌≡◌, length, ◌∙◌, arith}
use Rattle.excess_bounds.proofs.Kept.{columns_count, column_at, is_column}
use Rattle.excess_bounds.proofs.workspace.Workspace.cells.Goals as goal

pub index-requires : goal.index-requires
index-requires c =
    let count : length c.self.inside.columns.items ≡ length c.self.inside.prices.items = columns_count _ _ _ _ c.self.invariant.0 in
    let there = rw (← c.self.view_is) at c.requires in
    omega (arith, count, there, c.from.ensures)

pub returns : goal.returns
returns c =
    let there = rw (← c.self.view_is) at c.requires in
    let column = column_at _ _ _ _ c.args.asset c.index.result.now c.self.invariant.0 there in
    let at = rw c.from.ensures at c.index.ensures in
    record {
      value = rw (← c.self.view_is) (c.cells.ensures.value ∙ at ∙ column);
      column = rw (c.cells.ensures.value, at, column) (is_column _ _ _ _ c.self.invariant.0 c.args.asset there);
    }
