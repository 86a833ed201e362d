-- The invariant of the loop that serves a record, keeps its entry and writes it.
use Rattle.std.specs.Prelude.{ℕ, List, ◌++◌, map}
use Rattle.wire_records.specs.Records.{Record}
use Rattle.wire_records.specs.Commands.{Pair}
use Rattle.flow_orders.specs.Outcomes.{Outcome}
use Rattle.journal_records.specs.Formats.{records_of}
use Rattle.market_rules.specs.Market.{Market}
use Rattle.market_history.specs.Histories.{Start}
use Rattle.disk_edge.specs.Disks.{DiskState}
use Rattle.journal_disk.specs.Entries.{Keeps}
use Rattle.journal_keeping.specs.Starts.{head_of}
use Rattle.journal_keeping.specs.Keeping.{GoesOn, DuringCall}

-- So far these new entries were added, from the market after the old ones to this one, and each is kept. The disk has the entries
-- up to the appender's place, and at each moment since the start a crash left the start's images or the first of the entries.
pub record HasKept (begin : Start) (start now : DiskState) (old : List (Pair Record Outcome)) (before : Market) (place : ℕ) (new : List (Pair Record Outcome)) (market : Market) : Type 0 where
  pub goes_on : GoesOn begin old before new market
  pub keeps : Keeps (head_of begin) (map records_of (old ++ new)) place now
  pub during : DuringCall begin start now old new
