-- The input: what is before its lines, and the lines.
use Rattle.std.specs.Prelude.{◌≡◌, ◌<◌, ◌⊎◌, ℕ, List, [], ◌++◌, length, take, Option, Some, None, ⊤}
use Rattle.wire_records.specs.declared.version.Version.{Version}
use Rattle.wire_records.specs.declared.version.Version.TheVariants.{Four}
use Rattle.market_snapshot.specs.Checkpoints.{checkpoint_magic, checkpoint_bytes, IsCheckpoint, HasCheckpointMagic}
use Rattle.market_history.specs.Histories.{Start, Empty, Kept}
use Rattle.line_records.specs.Lines.{AreLines}
use Rattle.journal_keeping.specs.Inputs.{InputStarts, BeginsUnsound}

-- the highest version
abbrev pub newest : Version
newest = Four

-- the bytes before the lines: those of the checkpoint, or none
abbrev pub bytes_before : Start → List ℕ
bytes_before (Empty version) = []
bytes_before (Kept market) = checkpoint_bytes market

-- This is before the lines, and the text has the lines: if the bytes begin with the magic of a checkpoint, the checkpoint of a consistent
-- market; and else nothing, whatever the version is.
abbrev pub IsBefore : List ℕ → Start → List ℕ → Type 0
IsBefore bytes (Empty version) text = (¬ HasCheckpointMagic bytes) × (text ≡ bytes)
IsBefore bytes (Kept market) text = IsCheckpoint market (checkpoint_bytes market) × (bytes ≡ checkpoint_bytes market ++ text)

-- a new file begins with the checkpoint that is before the lines, or else as one of the highest version
abbrev pub BeginsNew : Start → Type 0
BeginsNew (Empty version) = version ≡ newest
BeginsNew (Kept market) = ⊤

-- the bytes are fewer than eight, and a part of the magic of a checkpoint
abbrev pub IsPartOfMagic : List ℕ → Type 0
IsPartOfMagic bytes = (rest : List ℕ) × (checkpoint_magic ≡ bytes ++ rest) × (length bytes < 8)

-- it isn't known yet what is before the lines: the bytes are a part of the magic of a checkpoint, or, for a new file, have that magic and no
-- complete checkpoint
abbrev pub IsUnopened : Option Version → List ℕ → Type 0
IsUnopened None bytes = IsPartOfMagic bytes ⊎ BeginsUnsound bytes
IsUnopened (Some version) bytes = IsPartOfMagic bytes

-- how an input of lines begins
abbrev pub line_starts : InputStarts
line_starts = record {
  Begins = IsBefore;
  MayBegin = BeginsNew;
  IsPart = λ wanted taken bytes. IsUnopened wanted bytes;
}

-- the lines of an input that has more bytes than these, or no more, and what is before them
abbrev pub HasLines : Type 0 → List ℕ → Start → List (List ℕ) → Type 0
HasLines More bytes before lines = (text : List ℕ) × IsBefore bytes before text × AreLines More text lines

-- the lines of the first `limit` bytes of an input, and what is before them
abbrev pub HasLinesWithin : ℕ → List ℕ → Start → List (List ℕ) → Type 0
HasLinesWithin limit bytes before lines = HasLines (limit < length bytes) (take limit bytes) before lines
