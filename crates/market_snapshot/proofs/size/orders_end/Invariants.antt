use Rattle.std.proofs.Common.{◌-◌, ◌≤◌, length}
use Rattle.market_snapshot.proofs.Sizing.{StandOn}
use Rattle.market_snapshot.proofs.size.orders_end.Given as goal

abbrev pub invariant-loop-passed : goal.invariant-loop-passed
invariant-loop-passed l = record {
  inside : l.end ≤ length l.bytes;
  few : l.passed ≤ l.count;
  ahead : StandOn l.bytes l.first l.end l.passed l.count;
}

abbrev pub decreases-loop-passed : goal.decreases-loop-passed
decreases-loop-passed l = l.count - l.passed
