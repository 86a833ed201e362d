use Rattle.std.proofs.Common.{◌∙◌}
use Rattle.flow_accounts.specs.NoCredit.{no_line}
use Rattle.flow_accounts.proofs.Holdings.{money_credit_is}
use Rattle.flow_accounts.proofs.Accounts.money_credit_held.Goals as goal

pub returns : goal.returns
returns c = c.money.ensures ∙ money_credit_is c.self.inside _ c.args.account c.self.invariant c.self.view_is c.requires (no_line c.self.inside.credits.assets)
