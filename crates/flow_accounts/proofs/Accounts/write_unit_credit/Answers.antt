use Rattle.std.proofs.Common.{sym, subst, Some}
use Rattle.flow_accounts.specs.Balances.{set_credit}
use Rattle.flow_accounts.specs.CreditLines.{Credits}
use Rattle.flow_accounts.specs.NoCredit.{no_line}
use Rattle.flow_accounts.proofs.Holdings.{given_unit_credit}
use Rattle.flow_accounts.proofs.Standing.{StandsFor}
use Rattle.flow_accounts.proofs.Accounts.write_unit_credit.Goals as goal

given : (c : goal.After-set_units) → StandsFor (record (c.self.inside) { credits = c.set_units.new.self }) (set_credit c.args.self.now c.args.account (Some c.args.asset) c.args.units)
given c =
    subst (λ (t : Credits). StandsFor (record (c.self.inside) { credits = t }) (set_credit c.args.self.now c.args.account (Some c.args.asset) c.args.units)) (sym c.set_units.ensures)
    (given_unit_credit c.self.inside _ c.args.account c.self.invariant c.self.view_is c.requires.accepted.account_there (no_line c.self.inside.credits.assets) c.args.asset c.args.units c.args.reserved c.requires.not_negative c.requires.accepted)

pub invariant_of-self : goal.invariant_of-self
invariant_of-self c = (given c).kept

pub returns-clause-given : goal.returns-clause-given
returns-clause-given c = (given c).shown

pub returns-clause-lawful : goal.returns-clause-lawful
returns-clause-lawful c = (given c).kept.lawful
