use Rattle.std.proofs.Common.{IfSome, ◌-◌, ◌^◌, ℕ, List}
use Rattle.journal_disk.specs.Pairs.{RecordPair}
use Rattle.journal_disk.specs.Ahead.{IsPiece}
use Rattle.journal_disk.specs.Entries.{Head, Holds}
use Rattle.journal_disk.specs.Looking.{OnlyLooks}
use Rattle.disk_tests.proofs.keeping.read_kept.Given as goal

abbrev pub invariant-pairs : goal.invariant-pairs
invariant-pairs g l = record {
  looks : OnlyLooks (g.D.Disk.state l.fn.disk) (g.D.Disk.state l.disk);
  piece : IfSome (g.D.Disk.state l.disk).content (IsPiece l.ahead);
  holds : (head : Head) (pairs : List RecordPair) (rest : List ℕ) → Holds head pairs l.fn.journal rest (g.D.Disk.state l.fn.disk) → (found : List RecordPair) × (left : List ℕ) × Holds head found l.journal left (g.D.Disk.state l.disk);
}

abbrev pub decreases-pairs : goal.decreases-pairs
decreases-pairs g l = 2 ^ 61 - l.journal
