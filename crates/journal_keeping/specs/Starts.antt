-- How a kept file begins, and how a source of commands begins: with a checkpoint, or without one.
use Rattle.std.specs.Prelude.{◌⊎◌, ◌<◌, ℕ, List, ◌++◌, Some, None, ⊤}
use Rattle.wire_records.specs.Records.{Record}
use Rattle.wire_records.specs.Grammars.{BeginsWith, BeginsWithNone}
use Rattle.wire_records.specs.Reading.{Format}
use Rattle.wire_records.specs.Formats.{commands, command_magic_of}
use Rattle.wire_records.specs.declared.version.Version.{Version}
use Rattle.market_snapshot.specs.Checkpoints.{checkpoint_bytes, HasCheckpointMagic}
use Rattle.market_history.specs.Histories.{Start, Empty, Kept, CanStart}
use Rattle.journal_disk.specs.Entries.{Head}
use Rattle.journal_keeping.specs.Inputs.{InputStarts, BeginsUnsound}

-- the version of a journal that begins so
abbrev pub version_of : Start → Version
version_of (Empty version) = version
version_of (Kept market) = market.version

-- how its disk begins: with the magic of the version, and with the checkpoint as the first entry, if there is one
abbrev pub head_of : Start → Head
head_of (Empty version) = record { version = version; first = None }
head_of (Kept market) = record { version = market.version; first = Some (checkpoint_bytes market) }

-- how its source begins: with the checkpoint, if there is one, and with the magic of a command file of the version
abbrev pub source_start : Start → List ℕ
source_start (Empty version) = command_magic_of version
source_start (Kept market) = checkpoint_bytes market ++ command_magic_of market.version

-- the sources of a new disk: a command file, or a checkpoint and a command file of its version
abbrev pub sources : Format Start Record
sources = record {
  magics = record { IsLawful = CanStart; encode = source_start };
  units = commands.units;
  IsOverlong = commands.IsOverlong;
}

-- the bytes begin neither with a command file nor with a checkpoint and a command file of its version, and not with an unsound checkpoint
abbrev pub BeginsOtherwise : List ℕ → Type 0
BeginsOtherwise bytes = BeginsWithNone sources.magics bytes × (¬ BeginsUnsound bytes)

-- so many bytes were taken, which have no whole beginning of a source: fewer than eight, or those of a checkpoint
abbrev pub IsUnbegun : ℕ → List ℕ → Type 0
IsUnbegun taken bytes = BeginsWithNone sources.magics bytes × ((taken < 8) ⊎ HasCheckpointMagic bytes)

-- how a source begins; a new disk begins as its source does
abbrev pub source_starts : InputStarts
source_starts = record {
  Begins = λ bytes input body. BeginsWith sources.magics bytes input body;
  MayBegin = λ begin. ⊤;
  IsPart = λ wanted taken bytes. IsUnbegun taken bytes;
}
