use mir.Syntax.{w64}
use Rattle.std.proofs.lemmas.Int.{to_z-of_z}
use Rattle.account_statement.proofs.Carrying.{limits_of}
use Rattle.account_statement.proofs.carried.copied_order.Goals as goal

pub restore-requires-clause-limits : goal.restore-requires-clause-limits
restore-requires-clause-limits c =
    rw (to_z-of_z w64 _ (record { sfits = c.low.type_inv }), to_z-of_z w64 _ (record { sfits = c.high.type_inv })) (limits_of c.args.order.now c.low.result c.high.result c.low.ensures.order c.low.ensures.value c.high.ensures.value)
