-- A subcommand over the entries of a history.
use Rattle.std.specs.Prelude.{◌≡◌, ◌⊎◌, ◌+◌, ◌<◌, ℕ, List, [], ◌++◌, length, take, Ok, Err}
use Rattle.wire_records.specs.Records.{Record}
use Rattle.wire_records.specs.Grammars.{BeginsWith}
use Rattle.market_rules.specs.Market.{Market}
use Rattle.market_snapshot.specs.Checkpoints.{HasCheckpointMagic}
use Rattle.market_history.specs.Histories.{Start, market_of, starts, BeginsUnsound, BeginsOtherwise}
use Rattle.word_driver.specs.declared.fault.Fault.TheVariants.{Read, Write, Memory, NotFlow, Torn, TooLong, Stopped}
use Rattle.word_driver.specs.Ended.{Ended}
use Rattle.word_driver.specs.Word.{Word, ComesOn, LacksOn}
use Rattle.word_driver.specs.Does.{Task}
use Rattle.journal_words.specs.Watching.{Watched}
use Rattle.history_words.specs.declared.stop.HistoryStop.{HistoryStop}
use Rattle.history_words.specs.declared.stop.HistoryStop.TheVariants.{NoCheckpoint, AtPairs}

-- how a subcommand over a history ends, by how it ends over the entries
abbrev pub following : {B : Type 0} → Ended B → Ended (HistoryStop B)
following (Ok done) = Ok done
following (Err Read) = Err Read
following (Err Write) = Err Write
following (Err Memory) = Err Memory
following (Err NotFlow) = Err NotFlow
following (Err (Torn place)) = Err (Torn place)
following (Err TooLong) = Err TooLong
following (Err (Stopped why)) = Err (Stopped (AtPairs why))

-- How a subcommand over entries begins in the market that a history begins in: its state there, the text that it writes before the
-- first entry, and whether it may allocate for that.
pub record Beginning (S : Type 0) : Type 1 where
  pub starts : Market → S
  pub opens : Market → List ℕ
  pub Allocates : Market → Type 0

-- a beginning that writes nothing before the first entry, and allocates nothing
abbrev pub plainly : {S : Type 0} → (Market → S) → Beginning S
plainly starts = record { starts = starts; opens = λ market. []; Allocates = λ market. ⊥ }

-- such a beginning with the market beside it, and no valid entry counted yet
abbrev pub at_first : {S : Type 0} → Beginning S → Beginning (Watched S)
at_first begins = record { starts = λ market. record { market = market; pairs = 0; seen = begins.starts market }; opens = begins.opens; Allocates = begins.Allocates }

-- w goes over entries, and `begins` is how it begins in the market that a history begins in
module _ {S B : Type 0} (w : Word (Record × Record) S B) (begins : Beginning S) where
  -- The end and the text that the considered bytes result in; More says whether the input has more bytes than these. Nothing is written if
  -- they begin with neither magic, or as a checkpoint but with none of a consistent market. Else the text is what the subcommand writes
  -- before the first entry, by the history's market, and what it writes from there on.
  abbrev pub ComesFrom : List ℕ → Type 0 → Ended (HistoryStop B) → List ℕ → Type 0
  ComesFrom bytes More ended text =
      (BeginsOtherwise bytes × (ended ≡ Err NotFlow) × (text ≡ []))
      ⊎ (BeginsUnsound bytes × (ended ≡ Err (Stopped NoCheckpoint)) × (text ≡ []))
      ⊎ ((start : Start) × (body : List ℕ) × (rest : List ℕ) × BeginsWith starts bytes start body × (text ≡ begins.opens (market_of start) ++ rest)
      × (inner : Ended B) × ComesOn w More (length (starts.encode start)) body (begins.starts (market_of start)) inner rest × (ended ≡ following inner))

  -- memory may run out, and this text was written: none at a checkpoint, none as the subcommand begins in the history's market, or what it
  -- wrote at its beginning and for the entries before
  abbrev pub LacksFrom : List ℕ → Type 0 → List ℕ → Type 0
  LacksFrom bytes More text =
      (HasCheckpointMagic bytes × (text ≡ []))
      ⊎ ((start : Start) × (body : List ℕ) × BeginsWith starts bytes start body × begins.Allocates (market_of start) × (text ≡ []))
      ⊎ ((start : Start) × (body : List ℕ) × (rest : List ℕ) × BeginsWith starts bytes start body × (text ≡ begins.opens (market_of start) ++ rest)
      × LacksOn w More (length (starts.encode start)) body (begins.starts (market_of start)) rest)

  -- the subcommand over a history as a task; a checkpoint is read to its length before anything is written, so all bytes may be taken by then
  abbrev pub over_history_from : Task (HistoryStop B)
  over_history_from = record {
    Comes = λ limit bytes ended text. ComesFrom (take limit bytes) (limit < length bytes) ended text;
    Begins = λ limit bytes n text. (ended : Ended (HistoryStop B)) × ComesFrom (take n (take limit bytes)) (Unit {0}) ended text;
    Lacks = λ limit bytes text. LacksFrom (take limit bytes) (limit < length bytes) text;
    Passed = λ limit bytes n text. ⊥;
    ahead = λ limit. limit + 1;
    most_taken = λ limit. limit + 1;
    left = λ bytes. [];
  }

-- w goes over entries and writes nothing before the first one, and `starts_at` is its start in the market that a history begins in
module _ {S B : Type 0} (w : Word (Record × Record) S B) (starts_at : Market → S) where
  abbrev pub Comes : List ℕ → Type 0 → Ended (HistoryStop B) → List ℕ → Type 0
  Comes = ComesFrom w (plainly starts_at)

  abbrev pub over_history : Task (HistoryStop B)
  over_history = over_history_from w (plainly starts_at)
