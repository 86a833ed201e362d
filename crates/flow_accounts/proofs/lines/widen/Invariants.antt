use Rattle.flow_accounts.proofs.Widening.{IsWidening}
use Rattle.flow_accounts.proofs.lines.widen.Given as goal

abbrev pub invariant-loop-left : goal.invariant-loop-left
invariant-loop-left g l = IsWidening l.none l.lines l.from l.to l.left l.initial.units l.units

abbrev pub decreases-loop-left : goal.decreases-loop-left
decreases-loop-left g l = l.left
