use Rattle.single_bisect.proofs.Narrowing.{IsNarrowed}
use Rattle.single_bisect.proofs.turn.last_before_turn.Given as goal

abbrev pub invariant-loop-width : goal.invariant-loop-width
invariant-loop-width g l =
    let probe = g.P.Probe in
    IsNarrowed (probe.test l.fn.probe) (probe.test l.probe) (probe.asked l.fn.probe) (probe.asked l.probe) l.fn.low l.fn.high l.turned l.before l.width

abbrev pub decreases-loop-width : goal.decreases-loop-width
decreases-loop-width g l = l.width
