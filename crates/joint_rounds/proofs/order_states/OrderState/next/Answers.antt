use Rattle.std.proofs.Common.{◌∙◌}
use Rattle.std.specs.Int.{w128}
use Rattle.std.proofs.lemmas.Int.{to_z-of_z}
use Rattle.joint_rounds.proofs.StateFacts.{next_is}
use Rattle.joint_rounds.proofs.order_states.OrderState.next.Goals as goal

pub returns-clause-value : goal.returns-clause-value
returns-clause-value c =
    let t = to_z-of_z w128 c.target.result (record { sfits = c.target.type_inv }) in
    let a = to_z-of_z w128 c.args.amount c.ranges.amount in
    let target = rw a at c.target.ensures.value in
    rw t at c.between.ensures.value ∙ next_is c.args.amount c.target.result c.args.self c.least.result c.most.result target (rw c.share-share.ensures.value at c.least.ensures.value) (rw c.share-share.ensures.value at c.most.ensures.value)
