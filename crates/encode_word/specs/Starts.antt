-- What is before the lines of an input: nothing, or a checkpoint.
use Rattle.std.specs.Prelude.{◌≡◌, ◌<◌, ℕ, List, [], ◌++◌, length, Option, Some, None}
use Rattle.wire_records.specs.declared.version.Version.{Version}
use Rattle.market_rules.specs.Market.{Market}
use Rattle.market_snapshot.specs.Checkpoints.{checkpoint_magic, checkpoint_bytes, IsCheckpoint, HasCheckpointMagic}

-- the tickers that are known before the first line: none, or those of the market whose checkpoint is before the lines
abbrev pub known_after : Option Market → List (List ℕ)
known_after None = []
known_after (Some market) = market.tickers

-- the bytes are a part of the magic of a checkpoint, and the input has more
abbrev pub IsCut : Type 0 → List ℕ → Type 0
IsCut More bytes = More × (length bytes < 8) × ((rest : List ℕ) × (checkpoint_magic ≡ bytes ++ rest))

-- In a version.
module _ (version : Version) where
  -- the bytes begin with the checkpoint of this market, which is one of the version, and these are the bytes after it
  abbrev pub BeginsKept : List ℕ → Market → List ℕ → Type 0
  BeginsKept bytes market after = IsCheckpoint market (checkpoint_bytes market) × (market.version ≡ version) × (bytes ≡ checkpoint_bytes market ++ after)

  -- the bytes begin as a checkpoint, and with one of no market of the version
  abbrev pub BeginsUnkept : List ℕ → Type 0
  BeginsUnkept bytes = HasCheckpointMagic bytes × ((market : Market) (after : List ℕ) → ¬ BeginsKept bytes market after)

  -- this is before the lines, nothing or the checkpoint of a market, and these are the bytes of the lines, after which the input may have
  -- more
  abbrev pub PrecedesLines : Type 0 → List ℕ → Option Market → List ℕ → Type 0
  PrecedesLines More bytes None lines = (¬ HasCheckpointMagic bytes) × (¬ IsCut More bytes) × (lines ≡ bytes)
  PrecedesLines More bytes (Some market) lines = BeginsKept bytes market lines
