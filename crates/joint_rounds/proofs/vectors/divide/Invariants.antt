use Rattle.std.proofs.Common.{◌≡◌, ◌++◌, length, take, drop}
use Rattle.joint_prices.specs.Numbers.{over}
use Rattle.joint_prices.specs.Steps.{zip_with}
use Rattle.joint_rounds.proofs.vectors.divide.Given as goal

abbrev pub invariant-loop-a : goal.invariant-loop-a
invariant-loop-a l =
    (zip_with over l.xs l.ys ≡ take l.a l.into ++ zip_with over (drop l.a l.xs) (drop l.a l.ys)) × (length l.into ≡ length l.xs)
