use Rattle.std.proofs.Common.{◌-◌, ◌≤◌, length, vec_len, vec_capacity}
use Rattle.market_snapshot.specs.Layout.{AreOrders}
use Rattle.market_snapshot.proofs.Walking.{StandAhead}
use Rattle.market_snapshot.proofs.places.places_from.Given as goal

abbrev pub invariant-loop-starts : goal.invariant-loop-starts
invariant-loop-starts l = record {
  so_far : AreOrders l.bytes l.first l.end l.starts.items;
  few : vec_len l.starts ≤ l.count;
  room : l.count ≤ vec_capacity l.starts;
  ahead : StandAhead l.bytes l.first l.end (length l.starts.items) l.count;
}

abbrev pub decreases-loop-starts : goal.decreases-loop-starts
decreases-loop-starts l = l.count - vec_len l.starts
