use Rattle.std.proofs.Common.{◌∙◌}
use Rattle.flow_accounts.specs.NoCredit.{no_line}
use Rattle.flow_accounts.proofs.Holdings.{unit_credit_is}
use Rattle.flow_accounts.proofs.Accounts.unit_credit_held.Goals as goal

pub returns : goal.returns
returns c = c.units.ensures ∙ unit_credit_is c.self.inside _ c.args.account c.self.invariant c.self.view_is c.requires.account (no_line c.self.inside.credits.assets) c.args.asset
