-- Where hosting ends, a file that keeps no valid journal, and isn't new, was only looked at.
use Rattle.std.proofs.Common.{◌≡◌, ◌≢◌, inl, inr, ℕ, List, [], ◌++◌, IfSome, refl, sym, ap, ◌∙◌}
use Rattle.wire_records.specs.Commands.{Command}
use Rattle.market_rules.specs.Market.{Market}
use Rattle.market_history.specs.Histories.{Start}
use Rattle.disk_edge.specs.Disks.{DiskState, IsDisk}
use Rattle.journal_disk.specs.Looking.{OnlyLooks}
use Rattle.journal_disk.proofs.GoingOn.{looks_more}
use Rattle.journal_keeping.specs.Openings.{KeepNone}
use Rattle.journal_keeping.specs.Outputs.{Output}
use Rattle.journal_keeping.proofs.Counts.{if_some}
use Rattle.desk_opening.specs.declared.book.Book.{Book}
use Rattle.desk_opening.specs.declared.book.Book.TheVariants.{Kept, Open}
use Rattle.desk_opening.specs.Books.{Continues}
use Rattle.desk_keeping.specs.declared.fault.HostFault.{HostFault}
use Rattle.desk_keeping.specs.declared.fault.HostFault.TheVariants.{Read, Write, Disk, Memory, NotDisk, Damaged, Rejected, NotFlow, BadCheckpoint, TooLong, Differs}
use Rattle.desk_keeping.specs.Hosting.{Entries}
use Rattle.desk_keeping.specs.Private.{HostState, stored, IsLeftAlone, FileGoes, LeavesFile, WhyNot, StopsWithin, BreaksLine, KeepsWaiting, BreaksGroup, BreaksEnd, IsFileAt, IsAt}
use Rattle.desk_keeping.proofs.KeepingNone.{none_continued, looked_alone, alone_later}
use Rattle.desk_keeping.proofs.Files.{moved, along_now}
use Rattle.desk_keeping.proofs.Leaving.{Carries}
use Rattle.desk_keeping.proofs.Stopped.{along_then}

-- By a book, with what waits: the file was only looked at, and nothing waits; or it is none that keeps no valid journal.
abbrev pub IsSpared : DiskState → Book → List ℕ → DiskState → Type 0
IsSpared start (Kept place ahead) group now = (group ≡ []) × OnlyLooks start now
IsSpared start (Open place) group now = IfSome start.content (λ held. ¬ KeepNone held)

module _ (start : DiskState) where
  -- so it was left alone
  pub spared_alone : (b : Book) (group : List ℕ) (now : DiskState) → IsSpared start b group now → IsLeftAlone start now
  spared_alone (Kept place ahead) group now is = looked_alone start now is.1
  spared_alone (Open place) group now is = if_some start.content _ _ (λ (held : List ℕ) no none. absurd (no none)) is

  -- also if nothing was done since
  spared_still : (b : Book) (group : List ℕ) (mid later : DiskState) (Same : Type 0) → Carries Same mid later → IsSpared start b group mid → Same → IsLeftAlone start later
  spared_still b group mid later Same carry is still = spared_alone b group later (carry still (λ s. IsSpared start b group s) is)

  -- if something waits, it is no such file
  spared_some : (b : Book) (group : List ℕ) (mid later : DiskState) → group ≢ [] → IsSpared start b group mid → IsLeftAlone start later
  spared_some (Kept place ahead) group mid later some is = absurd (some is.0)
  spared_some (Open place) group mid later some is = spared_alone (Open place) group later is

  -- ---- entries that wait

  module _ (host next : HostState) (mid later : DiskState) (Same : Type 0) (carry : Carries Same mid later) (is : IsSpared start host.book host.group mid) where
    spared_kept : KeepsWaiting host next mid later Same → IsLeftAlone start later
    spared_kept (inl (none, same, still)) = spared_still host.book host.group mid later Same carry is still
    spared_kept (inr (some, adds, leaves)) = spared_some host.book host.group mid later some is

    -- they weren't kept, or texts not written
    pub spared_group : (out after : Output) (fault : HostFault) → BreaksGroup fault host next mid later out after Same → IsLeftAlone start later
    spared_group out after Disk (same, some, leaves) = spared_some host.book host.group mid later some is
    spared_group out after Write (keeps, gained) = spared_kept keeps
    spared_group out after Read never = absurd never
    spared_group out after Memory never = absurd never
    spared_group out after NotDisk never = absurd never
    spared_group out after (Damaged place) never = absurd never
    spared_group out after (Rejected number) never = absurd never
    spared_group out after NotFlow never = absurd never
    spared_group out after BadCheckpoint never = absurd never
    spared_group out after TooLong never = absurd never
    spared_group out after (Differs number) never = absurd never

    -- a line wasn't ended
    pub spared_end : (out after : Output) (SameOut : Type 0) (fault : HostFault) → BreaksEnd fault host next mid later out after Same SameOut → IsLeftAlone start later
    spared_end out after SameOut Memory (inl (still, quiet)) = spared_still host.book host.group mid later Same carry is still
    spared_end out after SameOut Memory (inr (keeps, gained)) = spared_kept keeps
    spared_end out after SameOut Disk breaks = spared_group out after Disk breaks
    spared_end out after SameOut Write breaks = spared_group out after Write breaks
    spared_end out after SameOut Read never = absurd never
    spared_end out after SameOut NotDisk never = absurd never
    spared_end out after SameOut (Damaged place) never = absurd never
    spared_end out after SameOut (Rejected number) never = absurd never
    spared_end out after SameOut NotFlow never = absurd never
    spared_end out after SameOut BadCheckpoint never = absurd never
    spared_end out after SameOut TooLong never = absurd never
    spared_end out after SameOut (Differs number) never = absurd never

  module _ (begin : Start) (now : DiskState) (safe waiting : Entries) (market : Market) where
    -- ---- between lines

    pub file_spared : (b : Book) (group : List ℕ) → group ≡ stored waiting → IsFileAt begin start b now safe waiting market → IsSpared start b group now
    file_spared (Kept place ahead) group same (none, along) = (same ∙ ap stored none, along.looks)
    file_spared (Open place) group same file = none_continued start.content begin file.old file.opened ⊥ file.continues

    -- ---- a line

    module _ (is_disk : IsDisk now) (then : DiskState) (One : Type 0) where
      -- it was heard
      pub heard_spared : (b c : Book) (group : List ℕ) (taken made : Entries) (new : Market) → group ≡ stored waiting → IsFileAt begin start b now safe waiting market → FileGoes b c now then One market taken made new → IsSpared start c group then
      heard_spared (Kept p a) (Kept q d) group taken made new same (none, along) goes = (
        same ∙ ap stored none,
        looks_more start now then along.looks (goes.1 begin safe (along_now begin p a start now safe market is_disk along)).looks,
      )
      heard_spared (Kept p a) (Open q) group taken made new same (none, along) goes =
          let gets = goes.1 begin safe (along_now begin p a start now safe market is_disk along) in
          none_continued start.content begin (safe ++ taken) goes.0 ⊥ (moved now.content start.content (λ held. Continues held begin (safe ++ taken) goes.0) (sym along.looks.content) gets.continues)
      heard_spared (Open p) (Open q) group taken made new same file goes = file_spared (Open p) group same file
      heard_spared (Open p) (Kept q d) group taken made new same file goes = absurd goes

      -- memory ran out, or a call of the disk failed
      left_spared : (b : Book) → LeavesFile b now then One market → IsFileAt begin start b now safe waiting market → IsLeftAlone start then
      left_spared (Kept p a) leaves (none, along) = alone_later start now then along.looks (leaves begin safe (along_now begin p a start now safe market is_disk along)).1
      left_spared (Open p) still file = spared_alone (Open p) (stored waiting) then (file_spared (Open p) (stored waiting) refl file)

  -- it wasn't heard to its end
  module _ (begin : Start) (first : Output) (read : List (List ℕ)) (h : HostState) (now then : DiskState) (out : Output) (at : IsAt begin start first read h now out) (is_disk : IsDisk now) (line : List ℕ) (mid : HostState) (One : Type 0) where
    stopped_spared : (Why : (number : ℕ) → Market → List Command → (place : ℕ) → List ℕ → Type 0) → StopsWithin line h mid now then Why → IsLeftAlone start then
    stopped_spared Why stops = looked_alone start then (along_then begin start first read h now then out at line mid Why stops is_disk).looks

    pub line_spared : (fault : HostFault) → BreaksLine fault line h mid now then One → IsLeftAlone start then
    line_spared Memory leaves = left_spared begin now at.safe at.waiting h.session.market is_disk then One h.book leaves at.file
    line_spared Disk leaves = left_spared begin now at.safe at.waiting h.session.market is_disk then One h.book leaves at.file
    line_spared Read stops = stopped_spared (WhyNot Read) stops
    line_spared Write stops = stopped_spared (WhyNot Write) stops
    line_spared NotDisk stops = stopped_spared (WhyNot NotDisk) stops
    line_spared (Damaged place) stops = stopped_spared (WhyNot (Damaged place)) stops
    line_spared (Rejected number) stops = stopped_spared (WhyNot (Rejected number)) stops
    line_spared NotFlow stops = stopped_spared (WhyNot NotFlow) stops
    line_spared BadCheckpoint stops = stopped_spared (WhyNot BadCheckpoint) stops
    line_spared TooLong stops = stopped_spared (WhyNot TooLong) stops
    line_spared (Differs number) stops = stopped_spared (WhyNot (Differs number)) stops
