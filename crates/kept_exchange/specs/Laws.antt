-- What holds of keeping a journal and of serving lines, whatever the code.
use Rattle.std.specs.Prelude.{◌≡◌, ◌≢◌, ◌≤◌, ◌^◌, ◌↔◌, ℕ, List, length, Option, IfSome, Result, Err, ⊤}
use Rattle.flow_io.specs.Faults.{Rose}
use Rattle.flow_io.specs.Changes.{Change}
use Rattle.wire_records.specs.Records.{Record}
use Rattle.wire_records.specs.Commands.{Pair}
use Rattle.word_driver.specs.Laws.{IsNotDenied}
use Rattle.flow_orders.specs.Outcomes.{Outcome}
use Rattle.market_rules.specs.Market.{Market}
use Rattle.market_history.specs.Histories.{Start}
use Rattle.disk_edge.specs.Disks.{DiskState}
use Rattle.journal_keeping.specs.Keeping.{HoldsLegal}
use Rattle.journal_keeping.specs.Ended.{MayBeginAgain}
use Rattle.journal_keeping.specs.Ended as kept
use Rattle.journal_keeping.specs.Pacing.{KeepsPace, RunsOut}
use Rattle.journal_keeping.specs.declared.fault.KeepFault.{KeepFault}
use Rattle.journal_keeping.specs.declared.fault.KeepFault.TheVariants.{Memory}
use Rattle.journal_keeping.specs.Outputs.{Output}
use Rattle.line_keeping.specs.Ended as lines
use Rattle.exit_status.specs.declared.status.Status.{Status}
use Rattle.exit_status.specs.declared.status.Status.TheVariants.{NoMemory}
use Rattle.kept_exchange.specs.Statuses.{kept_status, AsksStatus, LinesAskStatus}
use Rattle.kept_exchange.specs.Keeping.{IsRefusal, EndsWith, IsPaced, ServesKeep}
use Rattle.kept_exchange.specs.Lines.{LinesEndWith, ServesLines}

-- the bytes of a disk and of a source lead to at most one status
abbrev pub OneStatus : Type 0
OneStatus = (limit : ℕ) (held bytes : List ℕ) (a b : Status) → AsksStatus limit held bytes a → AsksStatus limit held bytes b → a ≡ b

-- the bytes of a disk and of a source lead to some status, stated as not denied
abbrev pub SomeStatus : Type 0
SomeStatus = (limit : ℕ) (held bytes : List ℕ) → IsNotDenied ((status : Status) × AsksStatus limit held bytes status)

-- the bytes of a disk and of an input of lines lead to at most one status
abbrev pub LinesHaveOneStatus : Type 0
LinesHaveOneStatus = (limit : ℕ) (held bytes : List ℕ) (a b : Status) → LinesAskStatus limit held bytes a → LinesAskStatus limit held bytes b → a ≡ b

-- the bytes of a disk and of an input of lines lead to some status, stated as not denied
abbrev pub LinesHaveSomeStatus : Type 0
LinesHaveSomeStatus = (limit : ℕ) (held bytes : List ℕ) → IsNotDenied ((ends : Status) × LinesAskStatus limit held bytes ends)

-- these bytes of a disk and of a source lead to this status, and to no other
abbrev pub Determines : (List ℕ → List ℕ → Status → Type 0) → List ℕ → List ℕ → Status → Type 0
Determines Asks held bytes status = Asks held bytes status × ((other : Status) → Asks held bytes other → other ≡ status)

-- What follows of a call with this status, if `Asks` is what the bytes of the disk and of the source lead to. The two numbers are the faults of the
-- output before and after it.
pub record Follows (Asks : List ℕ → List ℕ → Status → Type 0) (status : Status) (start end : DiskState) (source : Change) (faults faults_after : ℕ) : Type 0 where
  -- What a crash leaves of a disk on which a call may begin is such a disk again, at any moment of the call and after it.
  pub again : (begin : Start) (old : List (Pair Record Outcome)) (market : Market) → HoldsLegal start begin old market → MayBeginAgain start end
  -- A disk that holds a valid journal of at most 2^60 bytes isn't refused.
  pub opens : (begin : Start) (old : List (Pair Record Outcome)) (market : Market) → HoldsLegal start begin old market
      → IfSome start.content (λ held. length held ≤ 2 ^ 60) → ¬ IsRefusal status
  -- If no count of faults rose, the status is NoMemory or the one that the bytes determine.
  pub complete : (¬ Rose start.faults end.faults) → (¬ Rose source.faults source.faults_after) → (¬ Rose faults faults_after) → status ≢ NoMemory
      → IfSome start.content (λ held. IfSome source.before (λ bytes. Determines Asks held bytes status))

-- what follows of each call that keeps a journal on a disk
abbrev pub KeepFollows : DiskState → DiskState → Type 0
KeepFollows start end = (limit : ℕ) (status : Status) (source : Change) (out later : Output) (notes : Change) → ServesKeep limit status start end source out later notes
    → Follows (AsksStatus limit) status start end source out.faults later.faults

-- what follows of each call that serves lines and keeps a journal on a disk
abbrev pub LinesFollow : DiskState → DiskState → Type 0
LinesFollow start end = (limit : ℕ) (status : Status) (source : Change) (out later : Output) (notes : Change) → ServesLines limit status start end source out later notes
    → Follows (LinesAskStatus limit) status start end source out.faults later.faults

-- what holds by the status, how far was read and when memory ran out are what some result of keeping a journal, which has that status, leads to
abbrev pub KeepEndsByResult : DiskState → Type 0
KeepEndsByResult end = (limit : ℕ) (held : Option (List ℕ)) (source : Change) (out later : Output) (status : Status)
    → (EndsWith limit held end source out later status × IsPaced limit status source out later
    × (status ≡ NoMemory → IfSome held (λ bytes. RunsOut limit bytes source.before source.after end out later)))
    ↔ ((result : Result ⊤ KeepFault) × (status ≡ kept_status limit result)
    × IfSome held (λ bytes. kept.ComesTo limit bytes source.before end out later result) × KeepsPace limit source.before source.after out later result
    × ((◌≡◌ {A = Result ⊤ KeepFault} result (Err Memory)) → IfSome held (λ bytes. RunsOut limit bytes source.before source.after end out later)))

-- what holds by the status is what some result of serving lines, which has that status, leads to
abbrev pub LinesEndByResult : DiskState → Type 0
LinesEndByResult end = (limit : ℕ) (held : List ℕ) (content left : Option (List ℕ)) (out later : Output) (status : Status)
    → LinesEndWith limit held content left end out later status
    ↔ ((result : Result ⊤ KeepFault) × (status ≡ kept_status limit result) × lines.ComesTo limit held content left end out later result)
