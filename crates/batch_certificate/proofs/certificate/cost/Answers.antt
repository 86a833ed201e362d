use Rattle.batch_certificate.proofs.Sums.{cost_grows}
use Rattle.batch_certificate.proofs.certificate.cost.Goals as goal

pub overflow_add-sum : goal.overflow_add-sum
overflow_add-sum c = (cost_grows _ _ _ _ _ c.requires.assets c.loop-asset-test.true c.requires.range c.requires.near c.cost_of-sum.ensures c.loop-asset.invariant).fits

pub loop-asset-preserved : goal.loop-asset-preserved
loop-asset-preserved c = (cost_grows _ _ _ _ _ c.requires.assets c.loop-asset-test.true c.requires.range c.requires.near c.cost_of-sum.ensures c.loop-asset.invariant).next
