use Rattle.std.proofs.Common.{arith}
use Rattle.joint_rounds.proofs.Pairing.{none_paired, one_paired, all_paired}
use Rattle.joint_rounds.proofs.elimination.gather_pairs.Goals as goal

pub loop-i-init : goal.loop-i-init
loop-i-init c = none_paired _ _ _ c.requires.square c.requires.small

pub loop-i-preserved : goal.loop-i-preserved
loop-i-preserved c =
    one_paired _ _ _ c.loop-i.i c.loop-i.grid _ _ _ c.loop-i-test.true c.requires.count c.index-orders-i.is c.index-states-i.is
    c.add_pairs.ensures.order c.add_pairs.ensures.slope c.loop-i.invariant c.add_pairs.ensures.pairs

pub returns : goal.returns
returns c = all_paired _ _ _ c.loop-i.i _ c.loop-i-test.false (omega (arith, c.loop-i.auto.i-end, c.requires.few)) c.loop-i.invariant
