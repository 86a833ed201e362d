use Rattle.std.proofs.Common.{subst}
use Rattle.std.specs.Prelude.{SomeIff}
use Rattle.flow_accounts.specs.Balances.{IsAsset, total_units_of}
use Rattle.market_parts.specs.Parts.{Parts}
use Rattle.market_snapshot.proofs.ReadThere.{total_units_told}
use Rattle.market_snapshot.proofs.view.SnapshotViewAccountParts.total_units.Goals as goal

pub returns : goal.returns
returns c =
    subst (λ (p : Parts). SomeIff c.number_in.result (IsAsset p.balances c.args.asset) (total_units_of p.balances c.args.asset)) c.self.view_is
    (total_units_told c.self.inside.layout c.self.inside.bytes.now c.args.asset c.number_in.result c.number_in.ensures)
