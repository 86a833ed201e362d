use Rattle.std.proofs.Common.{◌≡◌, ◌++◌, length, map, take, drop}
use Rattle.joint_prices.specs.Numbers.{zero_num}
use Rattle.joint_rounds.proofs.rounds.clear.Given as goal

abbrev pub invariant-loop-a : goal.invariant-loop-a
invariant-loop-a l = (map (λ a. zero_num) l.fn.numbers ≡ take l.a l.numbers ++ map (λ a. zero_num) (drop l.a l.fn.numbers)) × (length l.numbers ≡ length l.fn.numbers)
