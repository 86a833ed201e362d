use Rattle.residual_account.proofs.Standing.{asset_added}
use Rattle.residual_account.proofs.ResidualAccount.add_asset.Goals as goal

pub invariant_of-self : goal.invariant_of-self
invariant_of-self c = (asset_added c.self.inside _ c.self.invariant c.self.view_is c.requires).kept

pub returns : goal.returns
returns c = (asset_added c.self.inside _ c.self.invariant c.self.view_is c.requires).shown
