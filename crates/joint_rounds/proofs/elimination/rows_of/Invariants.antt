use Rattle.std.proofs.Common.{◌≡◌, ℕ, ◌+◌, ◌<◌, length, get_or, []}
use Rattle.joint_rounds.proofs.elimination.rows_of.Given as goal

abbrev pub invariant-loop-a : goal.invariant-loop-a
invariant-loop-a l = (length l.rows.items ≡ l.a) × ((k : ℕ) → k < l.a → length (get_or l.rows.items k []) + k ≡ l.count + 1)
