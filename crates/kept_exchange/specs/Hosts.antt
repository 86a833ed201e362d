-- What the program does when asked to `host FILE`: what a crash may leave on the disk, what the output gains, and which status comes.
use Rattle.std.specs.Prelude.{◌≡◌, ◌+◌, ℕ, List, IfSome, Result, Ok, Err, ⊤}
use Rattle.flow_io.specs.Faults.{Rose, Blames}
use Rattle.flow_io.specs.Streams.{TakesAtMost, Grows, GrowsByPrefix}
use Rattle.flow_io.specs.Changes.{Change}
use Rattle.wire_records.specs.Records.{Record}
use Rattle.wire_records.specs.Commands.{Pair}
use Rattle.flow_orders.specs.Outcomes.{Outcome}
use Rattle.market_rules.specs.Market.{Market}
use Rattle.market_history.specs.Histories.{Start}
use Rattle.disk_edge.specs.Disks.{DiskState}
use Rattle.journal_keeping.specs.Keeping.{HoldsLegal}
use Rattle.journal_keeping.specs.Outputs.{Output}
use Rattle.desk_opening.specs.Openings.{IsNoBook}
use Rattle.desk_keeping.specs.Hosting.{ComesTo, IsMadeAfterBeginning, IsOfFile, HostsIn}
use Rattle.desk_keeping.specs.declared.fault.HostFault.{HostFault}
use Rattle.desk_keeping.specs.declared.fault.HostFault.TheVariants as host
use Rattle.exit_status.specs.declared.status.Status.{Status}
use Rattle.exit_status.specs.declared.status.Status.TheVariants as status
use Rattle.exit_status.specs.Statuses.{line_of}

-- the status of how hosting the lines of many senders ended
abbrev pub host_status : ℕ → Result ⊤ HostFault → Status
host_status limit (Ok done) = status.Done
host_status limit (Err host.Read) = status.ReadFault
host_status limit (Err host.Write) = status.WriteFault
host_status limit (Err host.Disk) = status.DiskFault
host_status limit (Err host.Memory) = status.NoMemory
host_status limit (Err host.NotDisk) = status.NotDisk
host_status limit (Err (host.Damaged place)) = status.Damaged place
host_status limit (Err (host.Rejected number)) = status.Rejected number
host_status limit (Err host.NotFlow) = status.NotFlow
host_status limit (Err host.BadCheckpoint) = status.BadCheckpoint
host_status limit (Err host.TooLong) = status.TooLong limit
host_status limit (Err (host.Differs number)) = status.Differs number

-- What a call does that hosts the lines of many senders over a file, with a limit of its input. `out` and `later` are the output before and after it.
pub record HostsLines (limit : ℕ) (ends : Status) (start end : DiskState) (source : Change) (out later : Output) (notes : Change) : Type 0 where
  -- If a crash can leave only valid journals at the start, then at each moment a crash leaves what it might have left then, or the old entries and the first
  -- of the new ones, which are those that the lines ask for after the old ones, and which are one valid journal with them: of a line all new entries, or
  -- none. After the call it leaves each entry that was acknowledged, and of the others, which were kept together, all or none; the output gained the answers
  -- of lines whose entries are old or acknowledged, and a crash after the call leaves all of these; all acknowledged ones are among them, unless a write failed.
  pub keeps : (was : Start) (old : List (Pair Record Outcome)) (market : Market) → HoldsLegal start was old market
      → HostsIn limit source.before (ends ≡ status.WriteFault) was start end old market out later
  -- Which status comes, how far the lines were answered and the source was read, and what the disk and the output have then, by the result that has this
  -- status.
  pub result : Result ⊤ HostFault
  pub ends_so : ends ≡ host_status limit result
  pub comes : IfSome start.content (λ held. ComesTo limit held source.before source.after start end out later result)
  -- If the file's bytes alone refuse it, as one of no journal, or damaged at its first entry, the call ends at its opening: nothing is read of the source, and
  -- nothing written to the output.
  pub refuses : IfSome start.content (λ held. IsNoBook held → IsOfFile result × (source.after ≡ source.before) × (later ≡ out))
  -- A new file is only looked at, unless the beginning of the source, within the limit, is among what was taken of it.
  pub made : IfSome start.content (λ held. IsMadeAfterBeginning limit held start end source.before source.after)
  -- At most one byte past the limit is taken of the source.
  pub taken : TakesAtMost source.before source.after (limit + 1)
  -- A fault is answered only if its count rose; otherwise the count stays.
  pub disks : Blames (ends ≡ status.DiskFault) start.faults end.faults
  pub reads : Blames (ends ≡ status.ReadFault) source.faults source.faults_after
  pub writes : Blames (ends ≡ status.WriteFault) out.faults later.faults
  -- Standard error gained the line of the status, or a prefix of it if a write of it failed. Such a fault changes nothing else.
  pub noted : (¬ Rose notes.faults notes.faults_after) → Grows notes.before notes.after (line_of ends)
  pub cut : GrowsByPrefix notes.before notes.after (line_of ends)
