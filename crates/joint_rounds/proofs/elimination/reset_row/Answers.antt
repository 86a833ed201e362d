use Rattle.std.proofs.Common.{◌∙◌, ap, arith}
use Rattle.std.proofs.lemmas.List.{length-set}
use Rattle.std.specs.Int.{w128}
use Rattle.std.proofs.lemmas.Int.{to_z-of_z}
use Rattle.joint_rounds.specs.Elimination.{diagonal}
use Rattle.joint_prices.proofs.Filling.{filled_more, filled_all}
use Rattle.joint_rounds.proofs.elimination.reset_row.Goals as goal

pub loop-other-preserved : goal.loop-other-preserved
loop-other-preserved c = (
  filled_more (diagonal c.args.asset) c.loop-other.sums 0 c.loop-other.other _ (omega (arith, c.loop-other-test.true, c.loop-other.invariant.1)) (to_z-of_z w128 c.diagonal.result (record { sfits = c.diagonal.type_inv }) ∙ c.diagonal.ensures ∙ ap (diagonal c.args.asset) (omega arith)) c.loop-other.invariant.0,
  length-set _ _ _ ∙ c.loop-other.invariant.1,
)

pub returns : goal.returns
returns c = filled_all (diagonal c.args.asset) c.loop-other.sums 0 c.loop-other.other _ c.loop-other.invariant.1 c.loop-other-test.false c.loop-other.auto.other-end c.loop-other.invariant.0
