use Rattle.std.proofs.Common.{◌∙◌}
use Rattle.joint_rounds.proofs.RoundFacts.{sizes_are}
use Rattle.joint_rounds.proofs.rounds.sizes_of.Goals as goal

pub returns : goal.returns
returns c =
    sizes_are c.args.orders.now c.args.states.now c.fill.new.sums c.gather_sizes.new.sums _ _ c.cut_all.new.into c.fill.ensures c.gather_sizes.ensures.sums (c.gather_sizes.ensures.sums.count ∙ c.fill.ensures.count) c.cut_all.ensures
