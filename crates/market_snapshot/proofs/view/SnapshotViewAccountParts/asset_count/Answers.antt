use Rattle.std.proofs.Common.{◌∙◌, ap, sym, subst}
use Rattle.flow_accounts.specs.Balances.{asset_count}
use Rattle.flow_accounts.specs.Parts.{HasOneOfEach}
use Rattle.market_parts.specs.Parts.{Parts}
use Rattle.market_snapshot.proofs.ReadThere.{asset_count_is, one_of_each}
use Rattle.market_snapshot.proofs.view.SnapshotViewAccountParts.asset_count.Goals as goal

pub returns-clause-count : goal.returns-clause-count
returns-clause-count c = sym (asset_count_is c.self.inside.layout c.self.inside.bytes.now) ∙ ap (λ (p : Parts). asset_count p.balances) c.self.view_is

pub returns-clause-one_each : goal.returns-clause-one_each
returns-clause-one_each c = subst (λ (p : Parts). HasOneOfEach p.balances) c.self.view_is (one_of_each c.self.inside.layout c.self.inside.bytes.now)
