use Rattle.std.proofs.Common.{sym, subst, None}
use Rattle.flow_accounts.specs.Balances.{set_credit}
use Rattle.flow_accounts.specs.CreditLines.{Credits}
use Rattle.flow_accounts.specs.NoCredit.{no_line}
use Rattle.flow_accounts.proofs.Holdings.{given_money_credit}
use Rattle.flow_accounts.proofs.Standing.{StandsFor}
use Rattle.flow_accounts.proofs.Accounts.write_money_credit.Goals as goal

given : (c : goal.After-set_money) → StandsFor (record (c.self.inside) { credits = c.set_money.new.self }) (set_credit c.args.self.now c.args.account None c.args.ticks)
given c =
    subst (λ (t : Credits). StandsFor (record (c.self.inside) { credits = t }) (set_credit c.args.self.now c.args.account None c.args.ticks)) (sym c.set_money.ensures)
    (given_money_credit c.self.inside _ c.args.account c.self.invariant c.self.view_is c.requires.accepted.account_there (no_line c.self.inside.credits.assets) c.args.ticks c.args.reserved c.requires.not_negative c.requires.accepted)

pub invariant_of-self : goal.invariant_of-self
invariant_of-self c = (given c).kept

pub returns-clause-given : goal.returns-clause-given
returns-clause-given c = (given c).shown

pub returns-clause-lawful : goal.returns-clause-lawful
returns-clause-lawful c = (given c).kept.lawful
