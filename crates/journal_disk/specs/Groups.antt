-- Entries that are appended together, as bytes.
use Rattle.std.specs.Prelude.{◌≡◌, ℕ, ◌<◌, List, [], ◌∷◌, ◌++◌, length, take}

-- The stored entries that were put together in a buffer. It has what is written of them after the commit byte before the first: so that byte,
-- which is then set, isn't in it, and the unset commit byte after the last is.
unfoldable pub stored_in : List ℕ → List ℕ
stored_in buffer = take (length buffer) (1 ∷ buffer)

-- a buffer has nothing, or stored entries and an unset commit byte
abbrev pub EndsUnset : List ℕ → Type 0
EndsUnset buffer = 0 < length buffer → 1 ∷ buffer ≡ stored_in buffer ++ 0 ∷ []
