-- Where the move of a price ends.
use Rattle.std.specs.Prelude.{◌≡◌, ◌⊎◌, ℕ, ◌<◌, ◌≤◌, ℤ, ◌≤ℤ◌, ◌<ℤ◌}

-- the least amount from 1 to the reach after which no more than the bound is asked for, or the reach if there is none
pub record IsEnd (asked : ℕ → ℤ) (bound : ℤ) (reach amount : ℕ) : Type 0 where
  pub least : 1 ≤ amount
  pub most : amount ≤ reach
  pub first : (d : ℕ) → 1 ≤ d → d < amount → bound <ℤ asked d
  pub ends : (asked amount ≤ℤ bound) ⊎ (amount ≡ reach)
