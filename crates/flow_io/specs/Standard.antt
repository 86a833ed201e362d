-- What clauses see of the adapters that wrap readers and writers of the system.
use Rattle.std.specs.Prelude.{ℕ, ◌≤◌, List, Option, take, length}
use Rattle.std.specs.Io.KnownBytes.{Appends}

-- an adapter: the reader or the writer that it wraps, and how many calls of the adapter have failed
pub record Adapter (T : Type 0) : Type 0 where
  pub inner : T
  pub faults : ℕ

-- What a writer holds, if known, grew by some prefix of these bytes.
abbrev pub AppendsPrefix : Option (List ℕ) → Option (List ℕ) → List ℕ → Type 0
AppendsPrefix before after bytes = (count : ℕ) × (count ≤ length bytes) × Appends before after (take count bytes)
