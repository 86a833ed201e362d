use Rattle.std.proofs.Common.{◌≡◌, ◌-◌, [], length}
use Rattle.market_history.specs.Kept.{TakesOn}
use Rattle.market_history.specs.Private.{HasLeast}
use Rattle.market_history.proofs.start.read_checkpoint.Given as goal

abbrev pub invariant-sizes : goal.invariant-sizes
invariant-sizes g l = record {
  taken : TakesOn l.fn.window l.window [] l.prefix.items (g.S.Source.rest l.fn.source) (g.S.Source.rest l.source);
  least : HasLeast l.prefix.items (length l.prefix.items);
  quiet : g.S.Source.faults l.source ≡ g.S.Source.faults l.fn.source;
}

abbrev pub decreases-sizes : goal.decreases-sizes
decreases-sizes g l = l.window.limit - l.window.place
