use Rattle.std.proofs.Common.{◌∙◌, ap, not, refl, arith}
use Rattle.wire_records.specs.Commands.{CancelOrder, Plain}
use Rattle.flow_accounts.specs.Balances.{IsAccount, money_of}
use Rattle.market_rules.specs.Step.{ServesPlain, NoOutcome}
use Rattle.market_core.specs.Kept.{market_in}
use Rattle.market_core.proofs.Fitting.{consistent-served, of_each}
use Rattle.market_core.proofs.Reserving.{none_where, some_where}
use Rattle.market_core.proofs.Placing.{refuses-no_account, serves-cancel}
use Rattle.market_core.proofs.market.Market.cancel_order.Goals as goal

served : (c : goal.After-cancel_reply) → ServesPlain (market_in c.self.inside) (CancelOrder c.args.account c.args.number) (Plain c.cancel_reply.result) (record (market_in c.self.inside) { orders = c.cancel.new.self.orders })
served c =
    let m = market_in c.self.inside in
    let there = some_where c.money.result (IsAccount c.self.inside.accounts c.args.account) (money_of c.self.inside.accounts c.args.account) c.money.ensures (c.is_none.ensures ∙ ap not c.if-is_none.false) in
    let is = c.cancel.ensures in
    rw c.cancel_reply.ensures
    (serves-cancel NoOutcome m c.args.account c.args.number c.cancel.result c.self.inside.book c.cancel.new.self there is.there is.stays is.orders)

pub invariant_of-self : goal.invariant_of-self
invariant_of-self c = consistent-served (market_in c.self.inside) _ _ _ (of_each c.self.inside.version (CancelOrder c.args.account c.args.number) (omega arith) (omega arith)) c.self.invariant (served c)

pub returns-then-is_none : goal.returns-then-is_none
returns-then-is_none c =
    let m = market_in c.self.inside in
    let none = none_where c.money.result (IsAccount c.self.inside.accounts c.args.account) (money_of c.self.inside.accounts c.args.account) c.money.ensures (c.is_none.ensures ∙ ap not c.if-is_none.true) in
    rw (← c.self.view_is) (refuses-no_account NoOutcome m c.args.account c.args.number m none refl)

pub returns : goal.returns
returns c = rw (← c.self.view_is) (served c)
