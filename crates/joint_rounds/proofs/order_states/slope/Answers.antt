use Rattle.std.proofs.Common.{◌∙◌}
use Rattle.joint_rounds.proofs.StateFacts.{slope_is, slope_most}
use Rattle.joint_rounds.proofs.order_states.slope.Goals as goal

pub returns : goal.returns
returns c =
    let is = slope_is c.args.room c.args.share c.args.k c.from.result c.from-2.result c.from.ensures (c.from-2.ensures ∙ c.bend.ensures.value) in
    record { value = is; most = rw is (slope_most c.args.room c.args.share c.args.k c.requires.steep) }
