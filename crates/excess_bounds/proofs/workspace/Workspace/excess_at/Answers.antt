use Rattle.std.proofs.Common.{w64, ◌∙◌}
use mir.Syntax.{w128}
use Rattle.std.proofs.lemmas.Int.{to_z-of_z}
use Rattle.excess_bounds.proofs.Kept.{are_there, stay_in_range, low_is, high_is}
use Rattle.excess_bounds.proofs.workspace.Workspace.excess_at.Goals as goal

pub excess_after-requires-clause-there : goal.excess_after-requires-clause-there
excess_after-requires-clause-there c =
    let there = rw (← c.self.view_is) at c.requires.asset in
    let cells = rw (← c.self.view_is) at c.cells.ensures.value in
    rw (c.deref.ensures.value, cells) (are_there _ _ _ _ c.self.invariant.0 c.args.asset there)

pub excess_after-requires-clause-stays : goal.excess_after-requires-clause-stays
excess_after-requires-clause-stays c =
    let there = rw (← c.self.view_is) at c.requires.asset in
    let cells = rw (← c.self.view_is) at c.cells.ensures.value in
    let amount = rw (to_z-of_z w64 c.args.price c.ranges.price, ← c.self.view_is) at c.amount.ensures.value in
    let same = to_z-of_z w128 c.amount.result (record { sfits = c.amount.type_inv }) in
    rw (c.deref.ensures.value, cells, same) (stay_in_range _ _ _ _ c.self.invariant.0 c.args.asset there c.args.price c.amount.result c.requires.price amount)

pub returns-clause-low : goal.returns-clause-low
returns-clause-low c =
    let there = rw (← c.self.view_is) at c.requires.asset in
    let cells = rw (← c.self.view_is) at c.cells.ensures.value in
    let amount = rw (to_z-of_z w64 c.args.price c.ranges.price, ← c.self.view_is) at c.amount.ensures.value in
    let same = to_z-of_z w128 c.amount.result (record { sfits = c.amount.type_inv }) in
    let sum = rw (c.deref.ensures.value, cells, same) at c.excess_after.ensures.low in
    rw (← c.self.view_is) (sum ∙ low_is _ _ _ _ c.self.invariant.0 c.args.asset there c.args.price c.amount.result c.requires.price amount c.args.parts)

pub returns-clause-high : goal.returns-clause-high
returns-clause-high c =
    let there = rw (← c.self.view_is) at c.requires.asset in
    let cells = rw (← c.self.view_is) at c.cells.ensures.value in
    let amount = rw (to_z-of_z w64 c.args.price c.ranges.price, ← c.self.view_is) at c.amount.ensures.value in
    let same = to_z-of_z w128 c.amount.result (record { sfits = c.amount.type_inv }) in
    let sum = rw (c.deref.ensures.value, cells, same) at c.excess_after.ensures.high in
    rw (← c.self.view_is) (sum ∙ high_is _ _ _ _ c.self.invariant.0 c.args.asset there c.args.price c.amount.result c.requires.price amount c.args.parts)
