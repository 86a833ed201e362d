use Rattle.std.proofs.Common.{arith}
use Rattle.joint_rounds.proofs.StateFacts.{bend_is, bend_most}
use Rattle.joint_rounds.proofs.order_states.bend.Goals as goal

pub returns-clause-value : goal.returns-clause-value
returns-clause-value c = bend_is c.args.share _ _ c.from.ensures c.from-2.ensures

pub returns-clause-most : goal.returns-clause-most
returns-clause-most c = rw (bend_is c.args.share _ _ c.from.ensures c.from-2.ensures) (bend_most c.args.share (omega (arith, c.requires.1)))
