-- What the sinks in memory hold, and when it is known.
use Rattle.std.specs.Prelude.{◌+◌, ℕ, List, ◌++◌, Bool, ◌&&◌, if◌then◌else◌, Option, Some, None, take, length, nat_le}

-- what a sink in memory holds, how many bytes it may hold, and whether all that was written fit
pub record Kept : Type 0 where
  pub bytes : List ℕ
  pub room : ℕ
  pub complete : Bool

-- the known content of a sink: its bytes, as long as none was dropped
abbrev pub told : Kept → Option (List ℕ)
told kept = if kept.complete then Some kept.bytes else None

-- what a sink holds after a write: the first bytes, as many as fit
abbrev pub keep : Kept → List ℕ → Kept
keep kept bytes = record {
  bytes = take kept.room (kept.bytes ++ bytes);
  room = kept.room;
  complete = kept.complete && nat_le (length kept.bytes + length bytes) kept.room;
}
