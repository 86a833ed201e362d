-- The imbalances after the choices.
use Rattle.std.specs.Prelude.{ℕ, Bool, if◌then◌else◌, ℤ, List, [], ◌∷◌}
use Rattle.canonical_rule.specs.Choice.{raised, is_raised}

module _ {X : Type 0} (n : ℕ) (weight : X → ℕ → ℤ) (floor : X → ℕ) (is_fraction : X → Bool) where
  -- the imbalances after the choices for these orders
  abbrev pub residuals_after : (ℕ → ℤ) → List X → ℕ → ℤ
  residuals_after residuals [] = residuals
  residuals_after residuals (x ∷ xs) =
      if is_raised n weight floor is_fraction residuals x then residuals_after (raised weight residuals x) xs else residuals_after residuals xs
