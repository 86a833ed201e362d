use Rattle.std.proofs.Common.{◌∙◌}
use Rattle.joint_rounds.proofs.RoundFacts.{excesses_are}
use Rattle.joint_rounds.proofs.rounds.excesses.Goals as goal

pub returns : goal.returns
returns c =
    excesses_are c.args.orders.now c.args.states.now c.fill.new.sums c.gather_aims.new.sums _ _ c.cut_all.new.into c.fill.ensures c.gather_aims.ensures.sums (c.gather_aims.ensures.sums.count ∙ c.fill.ensures.count) c.cut_all.ensures
