use Rattle.std.proofs.Common.{◌≡◌, ◌≤◌, ◌<◌, ◌-◌, [], length}
use Rattle.market_history.specs.Kept.{TakesOn}
use Rattle.market_history.proofs.start.read_to.Given as goal

abbrev pub invariant-loop-prefix : goal.invariant-loop-prefix
invariant-loop-prefix g l = record {
  taken : TakesOn l.fn.window l.window l.fn.prefix.items l.prefix.items (g.S.Source.rest l.fn.source) (g.S.Source.rest l.source);
  few : length l.prefix.items ≤ l.want;
  none : length l.prefix.items < l.want → l.window.held ≡ [];
  quiet : g.S.Source.faults l.source ≡ g.S.Source.faults l.fn.source;
}

abbrev pub decreases-loop-prefix : goal.decreases-loop-prefix
decreases-loop-prefix g l = l.want - length l.prefix.items
