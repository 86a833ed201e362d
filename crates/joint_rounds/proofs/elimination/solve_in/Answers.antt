use Rattle.std.proofs.Common.{◌∙◌, length, map, subst, ap}
use Rattle.std.specs.Prelude.{pos}
use Rattle.flow_orders.specs.Residuals.{HasEach}
use Rattle.joint_prices.specs.Numbers.{whole}
use Rattle.joint_prices.specs.Solving.{solved}
use Rattle.joint_rounds.specs.Elimination.{ArePaired}
use Rattle.joint_rounds.proofs.Pairing.{square_at_first, grid_small_at_first, elimination_is}
use Rattle.joint_rounds.proofs.elimination.solve_in.Goals as goal

pub gather_pairs-requires-clause-square : goal.gather_pairs-requires-clause-square
gather_pairs-requires-clause-square c =
    let first = square_at_first (length c.args.grid.now) in
    rw c.reset_grid.ensures (rw (first.count) first)

pub gather_pairs-requires-clause-small : goal.gather_pairs-requires-clause-small
gather_pairs-requires-clause-small c = rw c.reset_grid.ensures (grid_small_at_first (length c.args.grid.now))

pub returns-clause-value : goal.returns-clause-value
returns-clause-value c =
    let n = c.requires.room.square.count in
    let first = rw n at c.reset_grid.ensures in
    let begins = subst (λ k. HasEach k (λ a. pos 0) c.fill.new.sums) c.requires.room.wide c.fill.ensures in
    let paired = subst (λ g. ArePaired c.args.orders.now c.args.states.now g c.gather_pairs.new.grid) first c.gather_pairs.ensures in
    c.whole_all.ensures.value ∙ ap (map whole) (c.solve.ensures.value ∙ ap solved c.fill_all.ensures.value)
    ∙ elimination_is (length c.args.by.now) c.args.orders.now c.args.states.now c.gather_pairs.new.grid c.fill.new.sums c.gather_aims.new.sums begins paired c.gather_aims.ensures.sums
