use Rattle.std.proofs.Common.{◌∙◌}
use Rattle.std.proofs.lemmas.Int.{to_z-of_z}
use Rattle.std.specs.Int.{w64, w128}
use Rattle.market_parts.proofs.Below.{read_value}
use Rattle.market_parts.proofs.sums.are_units_held.Goals as goal

pub returns : goal.returns
returns g c =
    let one = to_z-of_z w128 c.unit_sum.result (record { sfits = c.unit_sum.type_inv }) ∙ c.unit_sum.ensures.sum in
    let exchange = to_z-of_z w64 c.args.exchange c.ranges.exchange in
    let other = to_z-of_z w128 c.from.result (record { sfits = c.from.type_inv }) ∙ c.from.ensures ∙ exchange in
    let total = to_z-of_z w64 c.unwrap-total.result (record { sfits = c.unwrap-total.type_inv }) ∙ read_value _ _ _ _ c.total_units.ensures c.unwrap-total.ensures in
    let whole = to_z-of_z w128 c.from-2.result (record { sfits = c.from-2.type_inv }) ∙ c.from-2.ensures ∙ total in
    rw (one, other, whole) at c.is_sum.ensures
