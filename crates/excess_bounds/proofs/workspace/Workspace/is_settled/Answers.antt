use Rattle.std.proofs.Common.{w64, ◌∙◌}
use Rattle.std.proofs.lemmas.Int.{to_z-of_z}
use Rattle.excess_bounds.proofs.Settled.{settled_where}
use Rattle.excess_bounds.proofs.workspace.Workspace.is_settled.Goals as goal

pub returns : goal.returns
returns c =
    let steep = to_z-of_z w64 c.steepness.result (record { sfits = c.steepness.type_inv }) ∙ c.steepness.ensures.value in
    settled_where _ _ _ _ _ _ _ c.excess.ensures.low c.excess.ensures.high steep c.is_near.ensures
