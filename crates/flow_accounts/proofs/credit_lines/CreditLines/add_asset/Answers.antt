use Rattle.flow_accounts.proofs.StoringLines.{wider_credits}
use Rattle.flow_accounts.proofs.credit_lines.CreditLines.add_asset.Goals as goal

pub returns : goal.returns
returns c = wider_credits c.self.inside _ c.add_asset.new.self c.self.invariant c.self.view_is c.add_asset.ensures.added
