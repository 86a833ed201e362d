use Rattle.std.proofs.Common.{◌≡◌, ◌-◌, length}
use Rattle.std.specs.Prelude.{All}
use Rattle.joint_rounds.specs.Rounds.{rounds}
use Rattle.joint_rounds.specs.Sums.{IsFlat}
use Rattle.joint_rounds.proofs.rounds.make_rounds.Given as goal

abbrev pub invariant-loop-round : goal.invariant-loop-round
invariant-loop-round l =
    (rounds 100 l.orders l.states l.open_parts l.sizes l.fn.moves l.fn.direction l.fn.left ≡ rounds (100 - l._round) l.orders l.states l.open_parts l.sizes l.moves l.direction l.left)
    × (length l.sums ≡ length l.fn.sums)
    × (length l.moves ≡ length l.fn.sums)
    × (length l.direction ≡ length l.fn.sums)
    × (length l.left ≡ length l.fn.sums)
    × (length l.flow ≡ length l.fn.sums)
    × (length l.turn ≡ length l.fn.sums)
    × (length l.flat ≡ length l.fn.sums)
    × All IsFlat l.flat
