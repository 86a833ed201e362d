use Rattle.flow_accounts.specs.Parts.{ArePlacesOf}
use Rattle.flow_accounts.proofs.restore.totals_of.Given as goal

abbrev pub invariant-loop-asset : goal.invariant-loop-asset
invariant-loop-asset g l = ArePlacesOf l.asset (g.P.AccountParts.balances l.parts).totals.units l.totals
