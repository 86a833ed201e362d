use Rattle.order_text.proofs.Ladders.{HasPut}
use Rattle.std.specs.Prelude.{vec_capacity}
use Rattle.order_text.proofs.ladder.points_of.Given as goal

abbrev pub invariant-loop-value : goal.invariant-loop-value
invariant-loop-value l = HasPut l.values l.value-index l.points.items (vec_capacity l.points)
