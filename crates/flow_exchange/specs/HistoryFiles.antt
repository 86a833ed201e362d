-- What the subcommands over a history have in common: what is read of it, and its status.
use Rattle.std.specs.Prelude.{◌≡◌, ◌⊎◌, ℕ, List, [], ◌∷◌, ◌++◌, map, take, All}
use Rattle.wire_records.specs.Records.{Record}
use Rattle.wire_records.specs.Commands.{Pair}
use Rattle.wire_records.specs.Versions.{IsReadAs}
use Rattle.wire_records.specs.Reading.{Ending, File, Reads, StartsWith}
use Rattle.flow_orders.specs.Outcomes.{Outcome, IsAdmissibleOutcome}
use Rattle.journal_records.specs.Pairs.{IsPair}
use Rattle.journal_records.specs.Formats.{records_of}
use Rattle.market_rules.specs.Market.{Market}
use Rattle.market_rules.specs.Journal.{Follows}
use Rattle.market_snapshot.specs.Checkpoints.{HasCheckpointMagic}
use Rattle.market_history.specs.Histories.{Start, market_of, histories, BeginsUnsound, BeginsOtherwise}
use Rattle.batch_audit.specs.Legal.{StopsAt}
use Rattle.exit_status.specs.declared.status.Status.{Status}
use Rattle.exit_status.specs.declared.status.Status.TheVariants.{NotFlow, BadCheckpoint}
use Rattle.flow_exchange.specs.JournalFiles.{audit_status}

-- A history as it was read: its beginning, its valid entries, the market that they lead to from the one that it begins in, the entries from
-- the first invalid one on (`following`), and how the reading ended.
pub record History : Type 0 where
  pub start : Start
  pub legal : List (Pair Record Outcome)
  pub market : Market
  pub following : List (Record × Record)
  pub ending : Ending

-- entries that fit their widths are valid, one after the other, from the market that a history begins in to this one
pub record AreLegalFrom (start : Start) (legal : List (Pair Record Outcome)) (market : Market) : Type 0 where
  pub each : All IsPair legal
  pub steps : Follows IsReadAs IsAdmissibleOutcome (market_of start) legal market

-- The first `limit` bytes are this history.
pub record IsHistory (limit : ℕ) (bytes : List ℕ) (history : History) : Type 0 where
  pub units : List (Record × Record)
  pub reads : Reads histories limit bytes (File history.start units history.ending)
  pub parts : units ≡ map records_of history.legal ++ history.following
  pub legal : AreLegalFrom history.start history.legal history.market
  pub stops : StopsAt history.market history.following

-- the status of a history, which is found as that of a journal
abbrev pub history_status : ℕ → History → Status
history_status limit history = audit_status limit history.ending history.legal history.following

-- the status of bytes that begin no history: a bad checkpoint has a status of its own
abbrev pub IsNoHistory : List ℕ → Status → Type 0
IsNoHistory bytes status = (BeginsOtherwise bytes × (status ≡ NotFlow)) ⊎ (BeginsUnsound bytes × (status ≡ BadCheckpoint))

-- a subcommand makes this status and text of the first `limit` bytes: they begin no history, and nothing is written, or they are one,
-- whose status is by `judge`, and whose text is by `Writes`
abbrev pub HistoryTo : (History → Status) → (History → List ℕ → Type 0) → ℕ → List ℕ → Status → List ℕ → Type 0
HistoryTo judge Writes limit bytes status text =
    (IsNoHistory (take limit bytes) status × (text ≡ []))
    ⊎ ((history : History) × IsHistory limit bytes history × (status ≡ judge history) × Writes history text)

-- The entries of the history begin with these valid ones, which lead to this market, and another one follows.
pub record IsAtPairOf (limit : ℕ) (bytes : List ℕ) (start : Start) (legal : List (Pair Record Outcome)) (market : Market) (next : Record × Record) : Type 0 where
  pub starts : StartsWith histories limit bytes start (map records_of legal ++ next ∷ [])
  pub are : AreLegalFrom start legal market

-- memory may run out before the first entry, for a checkpoint; nothing is written then
abbrev pub LacksStart : ℕ → List ℕ → List ℕ → Type 0
LacksStart limit bytes text = HasCheckpointMagic (take limit bytes) × (text ≡ [])
