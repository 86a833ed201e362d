-- Subcommands over the entries of a journal: each is an audit, with what is seen of its entries.
use Rattle.std.specs.Prelude.{◌≡◌, ◌⊎◌, ◌+◌, ℕ, List, [], length, map, Option, Some, None}
use Rattle.wire_records.specs.Records.{Record}
use Rattle.wire_records.specs.Commands.{Pair}
use Rattle.wire_records.specs.Versions.{IsReadAs}
use Rattle.flow_orders.specs.Outcomes.{Outcome}
use Rattle.journal_records.specs.Formats.{journals, records_of}
use Rattle.journal_records.specs.Pairs.{longest_pair}
use Rattle.market_rules.specs.Market.{Market, IsConsistent, empty_market}
use Rattle.market_rules.specs.Promises.{KeepsPromises}
use Rattle.market_rules.specs.Allocating.{RecordMayAllocate}
use Rattle.batch_audit.specs.Legal.{IsLegalPair, IsIllegalPair, IsLegalJournal}
use Rattle.word_driver.specs.Word.{Word}

-- what is watched: a valid entry, the first invalid entry, or the end
pub data Sight : Type 0 where
  Legal : Record × Record → Sight
  Illegal : Record × Record → Sight
  End : Sight

-- What a subcommand sees of the entries of a journal, of type S, and writes, by the market and by how many valid entries precede.
pub record Watch (S B : Type 0) : Type 1 where
  -- At a valid entry, by the market that it made; at the first invalid entry; and at the end, where the subcommand closes or stops.
  pub Sees : Market → ℕ → Record × Record → S → S → List ℕ → Type 0
  pub Rejects : Market → ℕ → Record × Record → S → B → List ℕ → Type 0
  pub Closes : Market → ℕ → S → List ℕ → Type 0
  pub Stops : Market → ℕ → S → B → List ℕ → Type 0
  -- Where it may run out of memory.
  pub Allocates : Market → ℕ → Sight → S → Type 0

-- the market, how many entries were valid, and what was seen of them
pub record Watched (S : Type 0) : Type 0 where
  pub market : Market
  pub pairs : ℕ
  pub seen : S

-- The units are the entries of a valid journal, as many as were counted. It leads to the market, which is consistent, and keeps the
-- promises of the exchange.
pub record KeepsJournal (units : List (Record × Record)) (market : Market) (pairs : ℕ) : Type 0 where
  pub legal : List (Pair Record Outcome)
  pub parts : units ≡ map records_of legal
  pub journal : IsLegalJournal market.version legal market
  pub counted : pairs ≡ length legal
  pub consistent : IsConsistent market
  pub keeps : KeepsPromises IsReadAs (empty_market market.version) legal

module _ {S B : Type 0} (watch : Watch S B) where
  -- the entry is valid, is counted, and is seen
  pub record SeesOne (old : Watched S) (pair : Record × Record) (new : Watched S) (text : List ℕ) : Type 0 where
    pub legal : IsLegalPair old.market pair new.market
    pub counted : new.pairs ≡ old.pairs + 1
    pub sees : watch.Sees new.market old.pairs pair old.seen new.seen text

  -- at the first invalid entry or at the end, the subcommand stops for this reason with this text
  abbrev pub StopsOne : Watched S → Option (Record × Record) → B → List ℕ → Type 0
  StopsOne old (Some pair) why text = IsIllegalPair old.market pair × watch.Rejects old.market old.pairs pair old.seen why text
  StopsOne old None why text = watch.Stops old.market old.pairs old.seen why text

  -- where memory may run out: at an entry whose command may run out of it, or where the watch may
  abbrev pub AllocatesOne : Watched S → Option (Record × Record) → Type 0
  AllocatesOne old (Some pair) =
      RecordMayAllocate old.market pair.0
      ⊎ ((new : Market) × IsLegalPair old.market pair new × watch.Allocates new old.pairs (Legal pair) old.seen)
      ⊎ (IsIllegalPair old.market pair × watch.Allocates old.market old.pairs (Illegal pair) old.seen)
  AllocatesOne old None = watch.Allocates old.market old.pairs End old.seen

  -- the subcommand: it goes over the valid entries, and stops at the first that is invalid
  abbrev pub over_pairs : Word (Record × Record) (Watched S) B
  over_pairs = record {
    format = journals;
    longest = longest_pair;
    opens = λ version. [];
    Steps = SeesOne;
    Stops = StopsOne;
    Closes = λ s text. watch.Closes s.market s.pairs s.seen text;
    Allocates = AllocatesOne;
    Keeps = λ units s text. KeepsJournal units s.market s.pairs;
  }
