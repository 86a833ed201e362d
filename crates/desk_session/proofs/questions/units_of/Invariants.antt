use Rattle.std.proofs.Common.{◌≡◌, ◌≤◌, length, take}
use Rattle.std.specs.Prelude.{vec_len, vec_capacity}
use Rattle.desk_session.proofs.questions.units_of.Given as goal

abbrev pub invariant-loop-asset : goal.invariant-loop-asset
invariant-loop-asset l =
    (l.units.items ≡ take l.asset l.exchange.units)
    × (vec_len l.units ≡ l.asset)
    × (length l.exchange.units ≤ vec_capacity l.units)
