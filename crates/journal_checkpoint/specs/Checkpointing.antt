-- `flow checkpoint`, as a subcommand over the entries of a journal.
use Rattle.std.specs.Prelude.{◌≡◌, ◌+◌, ℕ, []}
use Rattle.wire_records.specs.Records.{Record}
use Rattle.market_snapshot.specs.Checkpoints.{checkpoint_bytes}
use Rattle.word_driver.specs.Word.{Word}
use Rattle.journal_words.specs.Watching.{Sight, Legal, Illegal, End, Watch, Watched, over_pairs}

-- memory may run out at the end, for the bytes of the market
abbrev pub AllocatesBytes : Sight → Type 0
AllocatesBytes (Legal pair) = ⊥
AllocatesBytes (Illegal pair) = ⊥
AllocatesBytes End = Unit {0}

-- It gives the number of the first invalid entry, counted from 1, and at the end it writes the checkpoint of the market.
abbrev pub checkpointing : Watch (Unit {0}) ℕ
checkpointing = record {
  Sees = λ market before pair old new text. text ≡ [];
  Rejects = λ market before pair seen number text. (number ≡ before + 1) × (text ≡ []);
  Closes = λ market pairs seen text. text ≡ checkpoint_bytes market;
  Stops = λ market pairs seen number text. ⊥;
  Allocates = λ market pairs sight seen. AllocatesBytes sight;
}

-- `flow checkpoint`
abbrev pub checkpoint : Word (Record × Record) (Watched (Unit {0})) ℕ
checkpoint = over_pairs checkpointing
