use Rattle.std.proofs.Common.{subst}
use Rattle.std.specs.Prelude.{SomeIff}
use Rattle.flow_accounts.specs.Balances.{IsAccount, IsAsset, unit_credit_of}
use Rattle.market_parts.specs.Parts.{Parts}
use Rattle.market_snapshot.proofs.ReadThere.{unit_credit_told}
use Rattle.market_snapshot.proofs.view.SnapshotViewAccountParts.unit_credit.Goals as goal

pub returns : goal.returns
returns c =
    subst (λ (p : Parts). SomeIff c.unit_credit_in.result (IsAccount p.balances c.args.account × IsAsset p.balances c.args.asset) (unit_credit_of p.balances c.args.account c.args.asset)) c.self.view_is
    (unit_credit_told c.self.inside.layout c.self.inside.bytes.now c.args.account c.args.asset c.unit_credit_in.result c.unit_credit_in.ensures)
