use Rattle.std.proofs.Common.{◌≡◌, ◌≤◌, ◌≤ℤ◌, ◌^◌, take, drop}
use Rattle.std.specs.Prelude.{All, unsigned_abs}
use Rattle.std.specs.Int.{int_max}
use Rattle.joint_prices.specs.Numbers.{Num}
use Rattle.joint_rounds.specs.Rounds.{top}
use Rattle.joint_rounds.proofs.vectors.top.Given as goal

abbrev pub invariant-loop-a : goal.invariant-loop-a
invariant-loop-a l =
    (top l.ds ≡ int_max l.top (top (drop l.a l.ds))) × All (λ (d : Num). d.e ≤ℤ l.top) (take l.a l.ds) × (unsigned_abs l.top ≤ 2 ^ 20)
