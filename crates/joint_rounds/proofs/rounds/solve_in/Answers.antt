use Rattle.std.proofs.Common.{◌∙◌, length, map, sym, ap}
use Rattle.std.specs.List.{range_with_len}
use Rattle.joint_rounds.specs.Rounds.{excess, size}
use Rattle.joint_rounds.proofs.RoundFacts.{by_rounds_is, zeros_alike}
use Rattle.joint_rounds.proofs.rounds.solve_in.Goals as goal

pub returns-clause-value : goal.returns-clause-value
returns-clause-value c =
    let os = c.args.orders.now in
    let zs = c.args.states.now in
    let room = c.requires.room in
    let excesses = c.excesses.ensures ∙ ap (λ n. map (excess os zs) (range_with_len 0 n)) room.sum_count in
    let sizes = c.sizes_of.ensures ∙ ap (λ n. map (size os zs) (range_with_len 0 n)) (c.excesses.auto.sums ∙ room.sum_count) in
    by_rounds_is (length c.args.by.now) c.args.open_parts.now os zs c.excesses.new.into c.sizes_of.new.into c.clear.new.numbers c.make_rounds.new.moves c.whole_all.new.by
    excesses sizes (c.clear.ensures ∙ zeros_alike c.args.moves.now c.excesses.new.into (room.move_count ∙ sym (c.excesses.auto.into ∙ room.left_count))) (rw c.divide.ensures at c.make_rounds.ensures.value) c.whole_all.ensures.value
