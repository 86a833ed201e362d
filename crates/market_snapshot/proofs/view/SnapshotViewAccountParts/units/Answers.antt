use Rattle.std.proofs.Common.{subst}
use Rattle.std.specs.Prelude.{SomeIff}
use Rattle.flow_accounts.specs.Balances.{IsAccount, IsAsset, units_of}
use Rattle.market_parts.specs.Parts.{Parts}
use Rattle.market_snapshot.proofs.ReadThere.{units_told}
use Rattle.market_snapshot.proofs.view.SnapshotViewAccountParts.units.Goals as goal

pub returns : goal.returns
returns c =
    subst (λ (p : Parts). SomeIff c.units_in.result (IsAccount p.balances c.args.account × IsAsset p.balances c.args.asset) (units_of p.balances c.args.account c.args.asset)) c.self.view_is
    (units_told c.self.inside.layout c.self.inside.bytes.now c.args.account c.args.asset c.units_in.result c.units_in.ensures)
