use Rattle.std.proofs.Common.{◌≡◌, map, drop}
use Rattle.joint_prices.specs.Numbers.{zero_num, minus}
use Rattle.joint_prices.specs.Solving.{less}
use Rattle.joint_rounds.specs.Rounds.{dot}
use Rattle.joint_rounds.proofs.vectors.dot.Given as goal

abbrev pub invariant-loop-a : goal.invariant-loop-a
invariant-loop-a l = dot l.xs l.ys ≡ less l.sum (map (minus zero_num) (drop l.a l.xs)) (drop l.a l.ys)
