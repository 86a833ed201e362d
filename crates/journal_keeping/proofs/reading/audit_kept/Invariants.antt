use Rattle.std.proofs.Common.{IfSome, ◌≡◌, ◌-◌, ◌+◌, ◌^◌, ◌≤◌, ℕ, List, [], length, map}
use Rattle.wire_records.specs.Records.{Record}
use Rattle.wire_records.specs.Commands.{Pair}
use Rattle.market_history.specs.Histories.{Start, market_of, CanStart}
use Rattle.flow_orders.specs.Outcomes.{Outcome}
use Rattle.journal_records.specs.Formats.{records_of}
use Rattle.journal_disk.specs.Entries.{Holds}
use Rattle.journal_disk.specs.Ahead.{IsPiece}
use Rattle.journal_disk.specs.Looking.{OnlyLooks}
use Rattle.journal_keeping.specs.Starts.{head_of}
use Rattle.journal_keeping.specs.Keeping.{IsKeptJournal}
use Rattle.journal_keeping.proofs.reading.audit_kept.Given as goal

abbrev pub invariant-pairs : goal.invariant-pairs
invariant-pairs g l = record {
  looks : OnlyLooks (g.D.Disk.state l.fn.disk) (g.D.Disk.state l.disk);
  reads : (begin : Start) (rest : List ℕ) → CanStart begin → l.fn.audit ≡ market_of begin → Holds (head_of begin) [] l.fn.journal rest (g.D.Disk.state l.fn.disk) → (legal : List (Pair Record Outcome)) × (left : List ℕ) × IsKeptJournal begin legal l.audit × (l.number ≡ length legal) × Holds (head_of begin) (map records_of legal) l.journal left (g.D.Disk.state l.disk);
  piece : IfSome (g.D.Disk.state l.disk).content (IsPiece l.ahead);
  next : l.audit.next_order ≤ l.journal + 2 ^ 63;
  small : l.number ≤ l.journal;
  quiet : (g.D.Disk.state l.disk).faults ≡ (g.D.Disk.state l.fn.disk).faults;
}

abbrev pub decreases-pairs : goal.decreases-pairs
decreases-pairs g l = 2 ^ 61 - l.journal
