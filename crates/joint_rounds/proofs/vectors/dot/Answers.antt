use Rattle.std.proofs.Common.{◌∙◌, map, sym, ap}
use Rattle.joint_prices.specs.Numbers.{zero_num, minus}
use Rattle.joint_prices.specs.Solving.{less}
use Rattle.joint_rounds.proofs.VectorFacts.{dot_begins}
use Rattle.joint_rounds.proofs.vectors.dot.Goals as goal

pub loop-a-init : goal.loop-a-init
loop-a-init c = dot_begins c.args.xs.now c.args.ys.now ∙ ap (λ t. less t (map (minus zero_num) c.args.xs.now) c.args.ys.now) (sym c.zero-sum.ensures)
