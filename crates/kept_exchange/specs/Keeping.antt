-- What the program does when asked to `keep FILE`: what a crash may leave on the disk, what the output gains, and which status comes.
use Rattle.std.specs.Prelude.{◌≡◌, ◌⊎◌, ◌+◌, ℕ, List, [], Option, Some, IfSome, ⊤}
use Rattle.flow_io.specs.Faults.{Rose, Blames}
use Rattle.flow_io.specs.Streams.{Grows, GrowsByPrefix, TakesAtMost}
use Rattle.flow_io.specs.Changes.{Change}
use Rattle.wire_records.specs.Records.{Record}
use Rattle.wire_records.specs.Commands.{Pair}
use Rattle.wire_records.specs.Reading as reading
use Rattle.flow_orders.specs.Outcomes.{Outcome}
use Rattle.market_rules.specs.Market.{Market}
use Rattle.market_history.specs.Histories.{Start}
use Rattle.disk_edge.specs.Disks.{DiskState}
use Rattle.journal_keeping.specs.Inputs.{BeginsUnsound, IsInCheckpoint}
use Rattle.journal_keeping.specs.Keeping.{HoldsLegal}
use Rattle.journal_keeping.specs.Outputs.{Output}
use Rattle.journal_keeping.specs.Dialogs.{ServesIn, record_dialog}
use Rattle.journal_keeping.specs.Openings as opening
use Rattle.journal_keeping.specs.Pacing.{ReadsAll, IsNear}
use Rattle.journal_keeping.specs.Ended.{IsRefused, HasKeptAll, StaysNew, HasLeftAll}
use Rattle.exit_status.specs.declared.status.Status.{Status}
use Rattle.exit_status.specs.declared.status.Status.TheVariants.{Done, Usage, NotFlow, Torn, ReadFault, WriteFault, NoMemory, Rejected, TooLong, BadText, BadCheckpoint, NoAccount, DiskFault, NotDisk, Damaged, Differs}
use Rattle.exit_status.specs.Statuses.{line_of}

-- How a call that keeps a journal ends. `held` is what the disk held at the start, if that is known.
module _ (limit : ℕ) (held : Option (List ℕ)) (end : DiskState) (source : Change) (out later : Output) where
  -- all complete records of the source were served and kept, and the source ends so
  abbrev pub ServesAll : reading.Ending → Type 0
  ServesAll ending = IfSome held (λ bytes. HasKeptAll limit bytes source.before end out later ending)

  -- what holds of the disk, the source and the output, by the status
  abbrev pub EndsWith : Status → Type 0
  -- All was served, and nothing is left of the source.
  EndsWith Done = ServesAll reading.End × IfSome source.before (λ bytes. source.after ≡ Some [])
  EndsWith (Torn place) = ServesAll (reading.Torn place)
  EndsWith (TooLong most) = ServesAll reading.TooLong × (most ≡ limit)
  EndsWith NotFlow = IfSome held (λ bytes. (later ≡ out) × HasLeftAll limit bytes source.before end)
  EndsWith BadCheckpoint = IfSome held (λ bytes. (later ≡ out) × StaysNew BeginsUnsound limit bytes source.before end)
  EndsWith NotDisk = IfSome held (λ bytes. (later ≡ out) × IsRefused bytes opening.Foreign end)
  EndsWith (Damaged place) = IfSome held (λ bytes. (later ≡ out) × IsRefused bytes (opening.Damaged place) end)
  EndsWith (Rejected number) = IfSome held (λ bytes. (later ≡ out) × IsRefused bytes (opening.Rejected number) end)
  -- After a fault, and if memory ran out, the disk and the output have what `keeps` says of them.
  EndsWith ReadFault = ⊤
  EndsWith WriteFault = ⊤
  EndsWith DiskFault = ⊤
  EndsWith NoMemory = ⊤
  -- These are of other subcommands.
  EndsWith Usage = ⊥
  EndsWith (BadText number) = ⊥
  EndsWith (NoAccount number) = ⊥
  EndsWith (Differs number) = ⊥

-- the disk was refused
abbrev pub IsRefusal : Status → Type 0
IsRefusal status = (status ≡ NotDisk) ⊎ ((place : ℕ) × (status ≡ Damaged place)) ⊎ ((number : ℕ) × (status ≡ Rejected number))

-- What a call does that keeps a journal on a disk, with a limit of its input. `out` and `later` are the output before and after it.
pub record ServesKeep (limit : ℕ) (status : Status) (start end : DiskState) (source : Change) (out later : Output) (notes : Change) : Type 0 where
  -- If a crash can leave only valid journals at the start, then at each moment a crash leaves what it might have left then, or the old
  -- entries and the first of the new ones, which answer the first records of the source and are one valid journal with the old ones.
  -- After the call it leaves each entry that was acknowledged, and at most one more; the output gained the acknowledged entries. A new
  -- disk begins as its source does, with its checkpoint if it has one, and any other keeps its beginning. Only if it was new at the start may
  -- a crash leave a new one, and after the call only if no entry was acknowledged.
  pub keeps : (begin : Start) (old : List (Pair Record Outcome)) (market : Market) → HoldsLegal start begin old market
      → ServesIn record_dialog limit source.before (status ≡ WriteFault) begin start end old market out later
  -- Which status comes, and what holds then of the disk, the source and the output.
  pub ends : EndsWith limit start.content end source out later status
  -- At most one byte past the limit was taken of the source.
  pub taken : TakesAtMost source.before source.after (limit + 1)
  -- A fault is answered only if its count rose; otherwise the count stays.
  pub disks : Blames (status ≡ DiskFault) start.faults end.faults
  pub reads : Blames (status ≡ ReadFault) source.faults source.faults_after
  pub writes : Blames (status ≡ WriteFault) out.faults later.faults
  -- Standard error gained the line of the status, or a prefix of it if a write of it failed. Such a fault changes nothing else.
  pub noted : (¬ Rose notes.faults notes.faults_after) → Grows notes.before notes.after (line_of status)
  pub cut : GrowsByPrefix notes.before notes.after (line_of status)

-- How far a call that keeps a journal has read, if something failed or memory ran out.
pub record IsPaced (limit : ℕ) (status : Status) (source : Change) (out later : Output) : Type 0 where
  -- After a failed read all complete records that were taken were answered, and no others.
  pub read : status ≡ ReadFault → ReadsAll limit source.before source.after out later
  -- After another failure the source was read no further than 1,030 bytes past the last record whose entry was written, past its beginning,
  -- or past the first eight bytes.
  pub near : (status ≡ WriteFault) ⊎ (status ≡ DiskFault) → IsNear limit source.before source.after out later
  -- So it was if memory ran out, or it was read within the checkpoint with which it begins, and nothing was written.
  pub memory : status ≡ NoMemory
      → IsNear limit source.before source.after out later ⊎ (IsInCheckpoint limit source.before source.after × (later ≡ out))
