use Rattle.std.proofs.Common.{arith, None}
use Rattle.wire_records.specs.Commands.{Withdraw, Plain}
use Rattle.flow_orders.specs.Orders.{needed_money}
use Rattle.market_rules.specs.Step.{ServesPlain, NoOutcome}
use Rattle.market_core.specs.Kept.{market_in}
use Rattle.market_core.proofs.Answering.{serves-withdrawal}
use Rattle.market_core.proofs.Fitting.{consistent_changes_fit, consistent-served, of_each}
use Rattle.market_core.proofs.Reserving.{same_number, needed_money_not_negative}
use Rattle.market_core.proofs.market.Market.withdraw_money.Goals as goal

pub withdraw_money-requires-clause-not_negative : goal.withdraw_money-requires-clause-not_negative
withdraw_money-requires-clause-not_negative c =
    rw (same_number c.money_needed-reserved.result (record { sfits = c.money_needed-reserved.type_inv }), c.money_needed-reserved.ensures.value)
    (needed_money_not_negative c.self.inside.book.orders c.args.account)

pub withdraw_money-requires-clause-covered : goal.withdraw_money-requires-clause-covered
withdraw_money-requires-clause-covered c =
    rw (same_number c.money_needed-reserved.result (record { sfits = c.money_needed-reserved.type_inv }), c.money_needed-reserved.ensures.value)
    (λ there. c.self.invariant.covered c.args.account None there tt)

pub withdraw_money-requires-clause-fits : goal.withdraw_money-requires-clause-fits
withdraw_money-requires-clause-fits c =
    rw (same_number c.money_needed-reserved.result (record { sfits = c.money_needed-reserved.type_inv }), c.money_needed-reserved.ensures.value)
    ((consistent_changes_fit (market_in c.self.inside) c.self.invariant).money_withdrawal c.args.account c.args.ticks
    (needed_money c.self.inside.book.orders c.args.account) (needed_money_not_negative c.self.inside.book.orders c.args.account))

served : (c : goal.After-reply_to) → ServesPlain (market_in c.self.inside) (Withdraw c.args.account None c.args.ticks) (Plain c.reply_to.result) (record (market_in c.self.inside) { balances = c.withdraw_money.new.self })
served c =
    let answers = rw (same_number c.money_needed-reserved.result (record { sfits = c.money_needed-reserved.type_inv }), c.money_needed-reserved.ensures.value) at c.withdraw_money.ensures in
    serves-withdrawal NoOutcome (market_in c.self.inside) c.withdraw_money.new.self c.args.account None c.args.ticks c.withdraw_money.result c.reply_to.result
    answers.accepted answers.refused answers.ok answers.err c.reply_to.ensures

pub invariant_of-self : goal.invariant_of-self
invariant_of-self c = consistent-served (market_in c.self.inside) _ _ _ (of_each c.self.inside.version (Withdraw c.args.account None c.args.ticks) (omega arith) (omega arith)) c.self.invariant (served c)

pub returns : goal.returns
returns c = rw (← c.self.view_is) (served c)
