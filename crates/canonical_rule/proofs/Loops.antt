-- How a walk in turn goes on.
use Rattle.std.specs.Prelude.{ℕ, ◌+◌, Bool, List, [], ◌∷◌, Option, option_map, unwrap_or}

-- the walk that continues with the next asset, if there is one
abbrev pub go_on : Option ℕ → (ℕ → List ℕ) → List ℕ
go_on found walk = unwrap_or (option_map (λ a. a ∷ walk a) found) []

module _ {P : Type 0} (n : ℕ) (unsettled : P → ℕ → Bool) (move : P → ℕ → P) where
  -- the asset that is visited next, after a walk in turn from `next` on
  abbrev pub next_after : ℕ → List ℕ → ℕ
  next_after next [] = next
  next_after next (a ∷ walk) = next_after (a + 1) walk
