-- What the program does when asked to `serve FILE`: what a crash may leave on the disk, what the output gains, and which status comes.
use Rattle.std.specs.Prelude.{◌≡◌, ◌⊎◌, ◌+◌, ◌<◌, ◌≤◌, ℕ, List, [], length, take, Option, IfSome, ⊤}
use Rattle.flow_io.specs.Faults.{Rose, Blames}
use Rattle.flow_io.specs.Streams.{Grows, GrowsByPrefix, TakesAtMost}
use Rattle.flow_io.specs.Changes.{Change}
use Rattle.wire_records.specs.Records.{Record}
use Rattle.wire_records.specs.Commands.{Pair}
use Rattle.word_driver.specs.Does.{IsTaken}
use Rattle.flow_orders.specs.Outcomes.{Outcome}
use Rattle.market_rules.specs.Market.{Market}
use Rattle.market_snapshot.specs.Checkpoints.{HasCheckpointMagic}
use Rattle.market_history.specs.Histories.{Start}
use Rattle.disk_edge.specs.Disks.{DiskState}
use Rattle.journal_keeping.specs.Inputs.{BeginsUnsound}
use Rattle.journal_keeping.specs.Keeping.{HoldsLegal}
use Rattle.journal_keeping.specs.Openings.{Foreign, Damaged, Rejected, Legal, IsOpening}
use Rattle.journal_keeping.specs.Ended.{IsRefused, StaysNew}
use Rattle.journal_keeping.specs.Pacing.{RunsOutEarly}
use Rattle.journal_keeping.specs.Outputs.{Output}
use Rattle.line_keeping.specs.Inputs.{HasLines, HasLinesWithin}
use Rattle.journal_keeping.specs.Dialogs.{ServesIn, KeepsJust}
use Rattle.line_keeping.specs.Answers.{MayRunOut}
use Rattle.line_keeping.specs.Keeping.{line_dialog}
use Rattle.line_keeping.specs.Ended.{HasAnswered, BreaksOff, IsNotOpened, IsNotBegun}
use Rattle.journal_keeping.specs.Dialogs.{KeepsJust}
use Rattle.exit_status.specs.declared.status.Status.{Status}
use Rattle.exit_status.specs.declared.status.Status.TheVariants as status
use Rattle.exit_status.specs.Statuses.{line_of}

-- How a call that serves lines ends, if the disk is known to have held these bytes.
module _ (limit : ℕ) (held : List ℕ) (content left : Option (List ℕ)) (end : DiskState) (out later : Output) where
  -- what holds of the disk, the source and the output, by the status
  abbrev pub LinesEndWith : Status → Type 0
  LinesEndWith status.Done = HasAnswered held content end out later (λ bytes before lines. HasLinesWithin limit bytes before lines × (length bytes ≤ limit))
  LinesEndWith (status.TooLong most) =
      HasAnswered held content end out later (λ bytes before lines. HasLinesWithin limit bytes before lines × (limit < length bytes)) × (most ≡ limit)
  -- all lines that were complete in what was taken of the input were answered, and no others
  LinesEndWith status.ReadFault =
      HasAnswered held content end out later (λ bytes before lines. (n : ℕ) × IsTaken bytes left n × HasLines ⊤ (take n (take limit bytes)) before lines)
      ⊎ IsNotOpened limit held content left end out later
  LinesEndWith status.WriteFault = BreaksOff limit held content left ⊤ out later (λ line. ⊤) (KeepsJust end)
  LinesEndWith status.DiskFault = IsNotBegun limit content left out later ⊎ BreaksOff limit held content left ⊥ out later (λ line. ⊤) (λ begin pairs. ⊤)
  LinesEndWith status.NoMemory =
      ((left ≡ content) × (later ≡ out))
      ⊎ (RunsOutEarly limit held content left end out later ⊎ BreaksOff limit held content left ⊥ out later MayRunOut (KeepsJust end))
  -- a checkpoint is before the lines, but the disk isn't new
  LinesEndWith status.NotFlow =
      (later ≡ out) × (begin : Start) × (old : List (Pair Record Outcome)) × (market : Market) × IsOpening held (Legal begin old market)
      × IfSome content (λ bytes. HasCheckpointMagic (take limit bytes)) × KeepsJust end begin old
  LinesEndWith status.BadCheckpoint = (later ≡ out) × StaysNew BeginsUnsound limit held content end
  LinesEndWith status.NotDisk = (later ≡ out) × IsRefused held Foreign end
  LinesEndWith (status.Damaged place) = (later ≡ out) × IsRefused held (Damaged place) end
  LinesEndWith (status.Rejected number) = (later ≡ out) × IsRefused held (Rejected number) end
  -- These are of other subcommands.
  LinesEndWith (status.Torn place) = ⊥
  LinesEndWith status.Usage = ⊥
  LinesEndWith (status.BadText number) = ⊥
  LinesEndWith (status.NoAccount number) = ⊥
  LinesEndWith (status.Differs number) = ⊥

-- What a call does that serves lines and keeps a journal on a disk, with a limit of its input. `out` and `later` are the output before and after it.
pub record ServesLines (limit : ℕ) (ends : Status) (start end : DiskState) (source : Change) (out later : Output) (notes : Change) : Type 0 where
  -- If a crash can leave only valid journals at the start, then at each moment a crash leaves what it might have left then, or the old
  -- entries and the first of the new ones, which the first lines add, each answered by the canonical rule, and which are one valid journal with the old
  -- ones. After the call it leaves each entry whose text was written, and at most one more; the output gained the answers to the lines up to that. A new
  -- disk begins with the checkpoint before the lines, or in the highest version, and any other keeps its beginning. Only if it was new at the start may
  -- a crash leave a new one, and after the call only if no entry was acknowledged.
  pub keeps : (begin : Start) (old : List (Pair Record Outcome)) (market : Market) → HoldsLegal start begin old market
      → ServesIn line_dialog limit source.before (ends ≡ status.WriteFault) begin start end old market out later
  -- Which status comes, how far the lines were answered and the source was read, and what the disk and the output have then.
  pub comes : IfSome start.content (λ held. LinesEndWith limit held source.before source.after end out later ends)
  -- At most one byte past the limit was taken of the source, and nothing is left of it at Done.
  pub taken : TakesAtMost source.before source.after (limit + 1)
  pub left : ends ≡ status.Done → IfSome source.after (λ rest. rest ≡ [])
  -- A fault is answered only if its count rose; otherwise the count stays.
  pub disks : Blames (ends ≡ status.DiskFault) start.faults end.faults
  pub reads : Blames (ends ≡ status.ReadFault) source.faults source.faults_after
  pub writes : Blames (ends ≡ status.WriteFault) out.faults later.faults
  -- Standard error gained the line of the status, or a prefix of it if a write of it failed. Such a fault changes nothing else.
  pub noted : (¬ Rose notes.faults notes.faults_after) → Grows notes.before notes.after (line_of ends)
  pub cut : GrowsByPrefix notes.before notes.after (line_of ends)
