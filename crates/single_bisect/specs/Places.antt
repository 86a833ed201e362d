-- What the searches find: the least and the greatest place at which a monotone test is true. Places are integers.
use Rattle.std.specs.Prelude.{◌≡◌, ℤ, ◌<ℤ◌, ◌≤ℤ◌, Bool, IsTrue, IsFalse}

-- the test is monotone: if it is true at a place above `low`, it is true at every later place up to `high`
abbrev pub IsClosedUpwards : (ℤ → Bool) → ℤ → ℤ → Type 0
IsClosedUpwards test low high =
    (p q : ℤ) → low <ℤ p → p ≤ℤ q → q ≤ℤ high → IsTrue (test p) → IsTrue (test q)

-- the test is monotone: if it is true at a place below `high`, it is true at every earlier place down to `low`
abbrev pub IsClosedDownwards : (ℤ → Bool) → ℤ → ℤ → Type 0
IsClosedDownwards test low high =
    (p q : ℤ) → low ≤ℤ p → p ≤ℤ q → q <ℤ high → IsTrue (test q) → IsTrue (test p)

-- of the places above `low`, this is the least one at which the test is true
pub record IsLeastTrue (test : ℤ → Bool) (low place : ℤ) : Type 0 where
  pub above : low <ℤ place
  pub holds : IsTrue (test place)
  pub none_before : (p : ℤ) → low <ℤ p → p <ℤ place → IsFalse (test p)

-- of the places below `high`, this is the greatest one at which the test is true
pub record IsGreatestTrue (test : ℤ → Bool) (high place : ℤ) : Type 0 where
  pub below : place <ℤ high
  pub holds : IsTrue (test place)
  pub none_after : (p : ℤ) → place <ℤ p → p <ℤ high → IsFalse (test p)

-- the two tests have the same answer at every place
abbrev pub SameTest : (ℤ → Bool) → (ℤ → Bool) → Type 0
SameTest test other = (p : ℤ) → test p ≡ other p
