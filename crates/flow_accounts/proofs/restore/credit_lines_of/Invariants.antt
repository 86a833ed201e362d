use Rattle.flow_accounts.specs.Parts.{AreCreditLinesOf}
use Rattle.flow_accounts.proofs.restore.credit_lines_of.Given as goal

abbrev pub invariant-loop-place : goal.invariant-loop-place
invariant-loop-place g l = AreCreditLinesOf (g.P.AccountParts.balances l.parts) l.place l.lines
