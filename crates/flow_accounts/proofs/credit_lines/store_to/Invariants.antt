use Rattle.std.proofs.Common.{◌-◌, length}
use Rattle.flow_accounts.proofs.StoringLines.{IsStoring}
use Rattle.flow_accounts.proofs.credit_lines.store_to.Given as goal

abbrev pub invariant-loop-stored : goal.invariant-loop-stored
invariant-loop-stored l = IsStoring l.lines l.initial.stored l.stored

abbrev pub decreases-loop-stored : goal.decreases-loop-stored
decreases-loop-stored l = l.lines - length l.stored.lines
