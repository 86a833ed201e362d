use Rattle.std.proofs.Common.{◌∙◌, arith}
use Rattle.std.proofs.lemmas.List.{length-set}
use Rattle.joint_prices.specs.Numbers.{Num, zero_num}
use Rattle.joint_prices.proofs.Filling.{mapped_more}
use Rattle.joint_rounds.proofs.rounds.clear.Goals as goal

pub loop-a-preserved : goal.loop-a-preserved
loop-a-preserved c = (
  mapped_more (λ (a : Num). zero_num) c.args.numbers.now c.loop-a.numbers _ c.loop-a.a zero_num c.zero.result c.loop-a-test.true (omega (arith, c.loop-a-test.true, c.loop-a.invariant.1)) c.zero.ensures c.loop-a.invariant.0,
  length-set _ _ _ ∙ c.loop-a.invariant.1,
)
