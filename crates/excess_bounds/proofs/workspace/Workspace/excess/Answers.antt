use Rattle.std.proofs.Common.{◌∙◌}
use Rattle.excess_bounds.proofs.Kept.{are_there, low_is_now, high_is_now}
use Rattle.excess_bounds.proofs.workspace.Workspace.excess.Goals as goal

pub excess_of-requires-clause-there : goal.excess_of-requires-clause-there
excess_of-requires-clause-there c =
    let there = rw (← c.self.view_is) at c.requires in
    let cells = rw (← c.self.view_is) at c.cells.ensures.value in
    rw (c.deref.ensures.value, cells) (are_there _ _ _ _ c.self.invariant.0 c.args.asset there)

pub returns-clause-low : goal.returns-clause-low
returns-clause-low c =
    let there = rw (← c.self.view_is) at c.requires in
    let cells = rw (← c.self.view_is) at c.cells.ensures.value in
    let sum = rw (c.deref.ensures.value, cells) at c.excess_of.ensures.low in
    rw (← c.self.view_is) (sum ∙ low_is_now _ _ _ _ c.self.invariant.0 c.args.asset there)

pub returns-clause-high : goal.returns-clause-high
returns-clause-high c =
    let there = rw (← c.self.view_is) at c.requires in
    let cells = rw (← c.self.view_is) at c.cells.ensures.value in
    let sum = rw (c.deref.ensures.value, cells) at c.excess_of.ensures.high in
    rw (← c.self.view_is) (sum ∙ high_is_now _ _ _ _ c.self.invariant.0 c.args.asset there)
