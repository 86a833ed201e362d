-- The place between two ends at which the answers of a test change: what the one search finds that both public searches use.
use Rattle.std.specs.Prelude.{◌≡◌, ◌≢◌, ℤ, ◌<ℤ◌, ◌≤ℤ◌, Bool}

-- once the test answers `turned` at a place between the ends, it does so at every later one
abbrev pub TurnsOnce : (ℤ → Bool) → ℤ → ℤ → Bool → Type 0
TurnsOnce test low high turned =
    (p q : ℤ) → low <ℤ p → p ≤ℤ q → q <ℤ high → test p ≡ turned → test q ≡ turned

-- of the places between the ends, the test answers `turned` at those after this one, and at no other
pub record IsLastBefore (test : ℤ → Bool) (low high : ℤ) (turned : Bool) (place : ℤ) : Type 0 where
  pub first : low ≤ℤ place
  pub last : place <ℤ high
  pub earlier : (p : ℤ) → low <ℤ p → p ≤ℤ place → test p ≢ turned
  pub later : (p : ℤ) → place <ℤ p → p <ℤ high → test p ≡ turned
