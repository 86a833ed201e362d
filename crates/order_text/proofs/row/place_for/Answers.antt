use Rattle.std.proofs.lemmas.Grind.{common_steps}
use Rattle.std.proofs.Common.{arith}
use Rattle.order_text.proofs.row.place_for.Goals as goal

pub returns-then-other-asset-2-clause-put : goal.returns-then-other-asset-2-clause-put
returns-then-other-asset-2-clause-put c = grind (arith, common_steps)

pub loop-place-preserved : goal.loop-place-preserved
loop-place-preserved c = grind (arith, common_steps)
