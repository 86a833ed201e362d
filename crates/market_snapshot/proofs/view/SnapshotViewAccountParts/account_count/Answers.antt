use Rattle.std.proofs.Common.{◌∙◌, ap, sym}
use Rattle.flow_accounts.specs.Balances.{account_count}
use Rattle.market_parts.specs.Parts.{Parts}
use Rattle.market_snapshot.proofs.ReadThere.{account_count_is}
use Rattle.market_snapshot.proofs.view.SnapshotViewAccountParts.account_count.Goals as goal

pub returns : goal.returns
returns c = sym (account_count_is c.self.inside.layout c.self.inside.bytes.now) ∙ ap (λ (p : Parts). account_count p.balances) c.self.view_is
