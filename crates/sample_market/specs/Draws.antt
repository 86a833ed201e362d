-- Pseudo-random numbers, which are the same at each run.
use Rattle.std.specs.Prelude.{ℕ, zero, suc, ◌+◌, ◌*◌, ◌/◌, ◌%◌, ◌^◌}

-- the state of the generator after a state: a number below 2^64
unfoldable pub next_state : ℕ → ℕ
next_state x = (x * 6364136223846793005 + 1442695040888963407) % 2 ^ 64

-- what a draw gives at a state: a number below `end`; the state after the draw is `next_state`
unfoldable pub drawn : ℕ → ℕ → ℕ
drawn end x = next_state x / 2 ^ 33 % end

-- the state after so many draws
abbrev pub state_after : ℕ → ℕ → ℕ
state_after zero x = x
state_after (suc n) x = state_after n (next_state x)
