use Rattle.market_rules.specs.Step.{NoOutcome}
use Rattle.std.proofs.Common.{◌∙◌, ap, not, refl}
use Rattle.flow_accounts.specs.Balances.{IsAccount, money_of}
use Rattle.market_core.specs.Kept.{market_in}
use Rattle.market_core.proofs.Reserving.{none_where, some_where}
use Rattle.market_core.proofs.Placing.{refuses-no_account}
use Rattle.market_core.proofs.Expecting.{expects-cancel}
use Rattle.market_core.proofs.market.Market.expected_cancel.Goals as goal

pub returns-then-is_none : goal.returns-then-is_none
returns-then-is_none c =
    let m = market_in c.self.inside in
    let none = none_where c.money.result (IsAccount c.self.inside.accounts c.args.account) (money_of c.self.inside.accounts c.args.account) c.money.ensures (c.is_none.ensures ∙ ap not c.if-is_none.true) in
    rw (← c.self.view_is) (m, refuses-no_account NoOutcome m c.args.account c.args.number m none refl)

pub returns : goal.returns
returns c =
    let m = market_in c.self.inside in
    let there = some_where c.money.result (IsAccount c.self.inside.accounts c.args.account) (money_of c.self.inside.accounts c.args.account) c.money.ensures (c.is_none.ensures ∙ ap not c.if-is_none.false) in
    rw (c.cancel_reply.ensures, ← c.self.view_is) (expects-cancel m c.args.account c.args.number c.has_order.result there c.has_order.ensures)
