use Rattle.std.proofs.Common.{◌≡◌, length, w64, ◌∙◌, arith}
use Rattle.std.proofs.lemmas.Int.{to_z-of_z}
use Rattle.excess_bounds.proofs.ColumnSums.{column_length}
use Rattle.excess_bounds.proofs.Kept.{columns_count, column_at, is_column, are_there}
use Rattle.excess_bounds.proofs.StepFacts.{same_end}
use Rattle.excess_bounds.proofs.Moves.{can_move, asked_moved}
use Rattle.excess_bounds.proofs.workspace.Workspace.move_amount.Goals as goal

pub index-requires : goal.index-requires
index-requires c =
    let count : length c.self.inside.columns.items ≡ length c.self.inside.prices.items = columns_count _ _ _ _ c.self.invariant.0 in
    let there = rw (← c.self.view_is) at c.requires.asset in
    omega (arith, count, there, c.from.ensures)

pub narrow-requires : goal.narrow-requires
narrow-requires c =
    let kept = c.self.invariant.0 in
    let there = rw (← c.self.view_is) at c.requires.asset in
    let room = rw (← c.self.view_is) at c.requires.room in
    let cells = c.cells.ensures.value ∙ rw c.from.ensures at c.index.ensures ∙ column_at _ _ _ _ c.args.asset c.index.result.now kept there in
    record {
      some_parts = c.requires.some_parts;
      few_parts = c.requires.few_parts;
      column = rw cells (is_column _ _ _ _ kept c.args.asset there);
      there = rw (c.deref.ensures.value, cells) (are_there _ _ _ _ kept c.args.asset there);
      moves = rw (c.deref.ensures.value, cells) (can_move _ _ _ _ kept c.args.asset there c.args.reach c.args.direction room);
      room = rw cells (omega (arith, column_length c.args.asset 0 c.self.inside.orders.now, c.self.invariant.1));
      some = c.requires.some;
      most = omega (arith, c.requires.far);
    }

pub returns-clause-end : goal.returns-clause-end
returns-clause-end c =
    let kept = c.self.invariant.0 in
    let there = rw (← c.self.view_is) at c.requires.asset in
    let room = rw (← c.self.view_is) at c.requires.room in
    let column = rw c.from.ensures at c.index.ensures ∙ column_at _ _ _ _ c.args.asset c.index.result.now kept there in
    let steep = to_z-of_z w64 c.steepness_in-bound.result (record { sfits = c.steepness_in-bound.type_inv }) ∙ rw (← c.self.view_is) at c.steepness_in-bound.ensures.value in
    let found = rw (c.deref.ensures.value, c.cells.ensures.value ∙ column, steep) at c.narrow.ensures.end in
    rw (← c.self.view_is) (same_end _ _ _ _ _ (asked_moved _ _ _ _ kept c.args.asset there c.args.reach c.args.direction room c.args.parts) found)
