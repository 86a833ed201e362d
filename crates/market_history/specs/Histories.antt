-- Histories: a beginning, which is the magic of a journal or a checkpoint, and the entries that follow it.
use Rattle.std.specs.Prelude.{ℕ, List}
use Rattle.wire_records.specs.Records.{Record}
use Rattle.wire_records.specs.Grammars.{Grammar, BeginsWithNone}
use Rattle.wire_records.specs.Reading.{Format}
use Rattle.wire_records.specs.declared.version.Version.{Version}
use Rattle.journal_records.specs.Formats.{journals, journal_magic_of}
use Rattle.market_rules.specs.Market.{Market, empty_market}
use Rattle.market_snapshot.specs.Checkpoints.{checkpoint_bytes, IsCheckpoint, HasCheckpointMagic}

-- the beginning of a history: the magic of a journal of this version, or the checkpoint of this market
pub data Start : Type 0 where
  Empty : Version → Start
  Kept : Market → Start

-- the market that the entries of a history continue: the empty one of the journal's version, or that of the checkpoint
abbrev pub market_of : Start → Market
market_of (Empty version) = empty_market version
market_of (Kept market) = market

-- each journal's magic begins a history, and so does a market's checkpoint, if the market has one
abbrev pub CanStart : Start → Type 0
CanStart (Empty version) = Unit {0}
CanStart (Kept market) = IsCheckpoint market (checkpoint_bytes market)

-- the bytes of the beginning: the magic, or the checkpoint
abbrev pub encode_start : Start → List ℕ
encode_start (Empty version) = journal_magic_of version
encode_start (Kept market) = checkpoint_bytes market

abbrev pub starts : Grammar Start
starts = record { IsLawful = CanStart; encode = encode_start }

-- histories: a beginning, followed by entries as a journal has them; a journal is a history that begins with the empty market
abbrev pub histories : Format Start (Record × Record)
histories = record { magics = starts; units = journals.units; IsOverlong = journals.IsOverlong }

-- the bytes begin with the magic of a checkpoint, but with no checkpoint of a consistent market
abbrev pub BeginsUnsound : List ℕ → Type 0
BeginsUnsound bytes = BeginsWithNone starts bytes × HasCheckpointMagic bytes

-- the bytes begin with the magic of neither a journal nor a checkpoint
abbrev pub BeginsOtherwise : List ℕ → Type 0
BeginsOtherwise bytes = BeginsWithNone starts bytes × (¬ HasCheckpointMagic bytes)
