use Rattle.std.proofs.Common.{◌∙◌, arith}
use Rattle.std.specs.Int.{w128}
use Rattle.std.proofs.lemmas.Int.{to_z_pos}
use Rattle.joint_prices.specs.OrderStates.{slope}
use Rattle.joint_prices.proofs.OrderStateFacts.{slope_is, slope_small}
use Rattle.joint_prices.proofs.order_states.OrderState.slope.Goals as goal

pub returns-clause-value : goal.returns-clause-value
returns-clause-value c =
    let is = slope_is c.args.self c.from.result c.stiffness.result (c.from.ensures ∙ c.room.ensures.value) c.stiffness.ensures.value in
    rw is (to_z_pos w128 _ (omega (arith, slope_small c.args.self c.room.ensures.order_state)))

pub returns-clause-small : goal.returns-clause-small
returns-clause-small c =
    let is = slope_is c.args.self c.from.result c.stiffness.result (c.from.ensures ∙ c.room.ensures.value) c.stiffness.ensures.value in
    let small = slope_small c.args.self c.room.ensures.order_state in
    rw (is, to_z_pos w128 (slope c.args.self) (omega (arith, small))) small
