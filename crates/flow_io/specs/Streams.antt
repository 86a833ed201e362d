-- What calls do to the bytes that a source has left and that a sink holds, if these are known.
use Rattle.std.specs.Prelude.{◌≡◌, ◌+◌, ◌≤◌, ℕ, List, ◌++◌, Option, Some, None, IfSome, IsSomeAnd, take, length, ⊤}
use Rattle.std.specs.List.{flat_map}

-- What a source has left, if known, loses these bytes at its beginning. Known content stays known, and unknown content unknown.
abbrev pub Takes : Option (List ℕ) → Option (List ℕ) → List ℕ → Type 0
Takes None None bytes = ⊤
Takes None (Some after) bytes = ⊥
Takes (Some before) None bytes = ⊥
Takes (Some before) (Some after) bytes = before ≡ bytes ++ after

-- What a source has left, if known, is shorter by at most so many bytes, and stays known.
abbrev pub TakesAtMost : Option (List ℕ) → Option (List ℕ) → ℕ → Type 0
TakesAtMost before after most = IfSome before (λ bytes. IsSomeAnd after (λ left. length bytes ≤ most + length left))

-- What a sink holds, or the calls that were made of it, if known, grew by this at the end. What is known may become unknown, but what is
-- unknown never known.
abbrev pub Grows : {A : Type 0} → Option (List A) → Option (List A) → List A → Type 0
Grows before after added = IfSome after (λ now. IsSomeAnd before (λ old. now ≡ old ++ added))

-- What a sink holds, if known, grew by some prefix of these bytes. It may become unknown.
abbrev pub GrowsByPrefix : Option (List ℕ) → Option (List ℕ) → List ℕ → Type 0
GrowsByPrefix before after bytes = (count : ℕ) × (count ≤ length bytes) × Grows before after (take count bytes)

-- These pieces were handed to a sink, each by a call of its own, and no other call was made. If no write failed, what the
-- sink holds grew by them, one after the other.
pub record HandsOver {O : Type 0} (calls : O → Option (List (List ℕ))) (held : O → Option (List ℕ)) (before after : O) (Failed : Type 0) (pieces : List (List ℕ)) : Type 0 where
  pub called : Grows (calls before) (calls after) pieces
  pub written : ¬ Failed → Grows (held before) (held after) (flat_map (λ piece. piece) pieces)
