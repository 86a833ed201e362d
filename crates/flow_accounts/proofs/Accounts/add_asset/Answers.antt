use Rattle.flow_accounts.specs.Balances.{add_asset}
use Rattle.flow_accounts.proofs.Added.{asset_added}
use Rattle.flow_accounts.proofs.Standing.{StandsFor}
use Rattle.flow_accounts.proofs.Accounts.add_asset.Goals as goal

added : (c : goal.After-add_asset-2) → StandsFor (record (c.self.inside) { holdings = c.add_asset.new.self; credits = c.add_asset-2.new.self }) (add_asset c.args.self.now)
added c = asset_added c.self.inside _ c.add_asset.new.self c.add_asset-2.new.self c.self.invariant c.self.view_is c.requires c.add_asset.ensures.added c.add_asset-2.ensures

pub invariant_of-self : goal.invariant_of-self
invariant_of-self c = (added c).kept

pub returns-clause-added : goal.returns-clause-added
returns-clause-added c = (added c).shown

pub returns-clause-lawful : goal.returns-clause-lawful
returns-clause-lawful c = (added c).kept.lawful
