use Rattle.std.proofs.Common.{◌-◌, ◌+◌, length}
use Rattle.flow_io.proofs.Filling.{HasFilled, left_open}
use Rattle.flow_io.proofs.window.Window.fill.Given as goal

abbrev pub invariant-loop-self : goal.invariant-loop-self
invariant-loop-self g l = HasFilled g.S.Source.rest g.S.Source.faults l.fn.want l.fn.self l.self l.fn.source l.source

abbrev pub decreases-loop-self : goal.decreases-loop-self
decreases-loop-self g l = (l.self.room - length l.self.held) + left_open l.self.over
