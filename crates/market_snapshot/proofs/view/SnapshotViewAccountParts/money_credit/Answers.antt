use Rattle.std.proofs.Common.{subst}
use Rattle.std.specs.Prelude.{SomeIff}
use Rattle.flow_accounts.specs.Balances.{IsAccount, money_credit_of}
use Rattle.market_parts.specs.Parts.{Parts}
use Rattle.market_snapshot.proofs.ReadThere.{money_credit_told}
use Rattle.market_snapshot.proofs.view.SnapshotViewAccountParts.money_credit.Goals as goal

pub returns : goal.returns
returns c =
    subst (λ (p : Parts). SomeIff c.money_credit_in.result (IsAccount p.balances c.args.account) (money_credit_of p.balances c.args.account)) c.self.view_is
    (money_credit_told c.self.inside.layout c.self.inside.bytes.now c.args.account c.money_credit_in.result c.money_credit_in.ensures)
