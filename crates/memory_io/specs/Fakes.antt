-- The source and the sink in memory that fail at stated calls, and what a call makes of them.
use Rattle.std.specs.Prelude.{ℕ, ◌+◌, ◌-◌, ◌^◌, ◌/◌, min, List, Option, Contains, length, take, drop}
use Rattle.memory_io.specs.Memory.{Kept, keep}

-- a count after one more, which stays at the greatest u64
abbrev pub one_more : ℕ → ℕ
one_more count = min (count + 1) (2 ^ 64 - 1)

-- the next call fails, since its number, counted from 1, is listed
abbrev pub NextIsListed : List ℕ → ℕ → Type 0
NextIsListed failing calls = Contains failing (calls + 1)

-- a source: the bytes left, the most that a call gives, which calls fail, how many calls there were, and how many of them failed
pub record SourceState : Type 0 where
  pub left : List ℕ
  pub piece : ℕ
  pub failing : List ℕ
  pub calls : ℕ
  pub faults : ℕ

-- how many bytes a call gives, if its buffer has room for this many
abbrev pub given : SourceState → ℕ → ℕ
given source room = min (length source.left) (min room source.piece)

-- the source after a call that gave so many bytes
abbrev pub after_read : SourceState → ℕ → SourceState
after_read source count = record source { left = drop count source.left; calls = one_more source.calls }

-- the source after a call that failed: nothing is taken
abbrev pub after_failed_read : SourceState → SourceState
after_failed_read source = record source { calls = one_more source.calls; faults = one_more source.faults }

-- a sink: what it holds, which calls fail, how many calls there were, how many of them failed, and the bytes of each, if known
pub record SinkState : Type 0 where
  pub kept : Kept
  pub failing : List ℕ
  pub calls : ℕ
  pub faults : ℕ
  pub handed : Option (List (List ℕ))

-- the sink after a call that wrote these bytes, and the bytes of its calls that are known then
abbrev pub after_write : SinkState → List ℕ → Option (List (List ℕ)) → SinkState
after_write sink bytes handed = record sink { kept = keep sink.kept bytes; calls = one_more sink.calls; handed = handed }

-- the sink after a call that failed: the first half of the bytes, rounded down, is written
abbrev pub after_failed_write : SinkState → List ℕ → Option (List (List ℕ)) → SinkState
after_failed_write sink bytes handed = record sink {
  kept = keep sink.kept (take (length bytes / 2) bytes);
  calls = one_more sink.calls;
  faults = one_more sink.faults;
  handed = handed;
}
