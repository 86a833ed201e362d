use Rattle.std.proofs.Common.{◌-◌, vec_len}
use Rattle.flow_io.proofs.Reading.{HasRead}
use Rattle.flow_io.proofs.whole.read_up_to.Given as goal

abbrev pub invariant-loop-window : goal.invariant-loop-window
invariant-loop-window g l =
    HasRead (g.S.Source.rest l.fn.source) (g.S.Source.rest l.source) l.bytes.items l.limit (g.S.Source.faults l.fn.source) (g.S.Source.faults l.source)

abbrev pub decreases-loop-window : goal.decreases-loop-window
decreases-loop-window g l = l.limit - vec_len l.bytes
