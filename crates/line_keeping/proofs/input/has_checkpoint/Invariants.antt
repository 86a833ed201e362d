use Rattle.std.proofs.Common.{◌≡◌, ◌-◌, ◌+◌, length}
use Rattle.line_keeping.specs.Private.{HasLooked}
use Rattle.line_keeping.proofs.input.has_checkpoint.Given as goal

abbrev pub invariant-reads : goal.invariant-reads
invariant-reads g l = HasLooked l.fn.window l.window (g.S.Source.rest l.fn.source) (g.S.Source.rest l.source) × (g.S.Source.faults l.source ≡ g.S.Source.faults l.fn.source)

abbrev pub decreases-reads : goal.decreases-reads
decreases-reads g l = l.window.limit - (l.window.place + length l.window.held)
