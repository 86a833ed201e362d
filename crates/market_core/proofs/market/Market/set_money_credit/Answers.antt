use Rattle.std.proofs.Common.{None}
use Rattle.wire_records.specs.Commands.{SetCredit, Plain}
use Rattle.market_rules.specs.Step.{ServesPlain, NoOutcome}
use Rattle.market_core.specs.Kept.{market_in}
use Rattle.market_core.proofs.Answering.{serves-credit}
use Rattle.market_core.proofs.Fitting.{consistent-served}
use Rattle.market_core.proofs.Reserving.{same_number, needed_money_not_negative}
use Rattle.market_core.proofs.market.Market.set_money_credit.Goals as goal

pub set_money_credit-requires-clause-not_negative : goal.set_money_credit-requires-clause-not_negative
set_money_credit-requires-clause-not_negative c =
    rw (same_number c.money_needed-needed.result (record { sfits = c.money_needed-needed.type_inv }), c.money_needed-needed.ensures.value)
    (needed_money_not_negative c.self.inside.book.orders c.args.account)

pub set_money_credit-requires-clause-covered : goal.set_money_credit-requires-clause-covered
set_money_credit-requires-clause-covered c =
    rw (same_number c.money_needed-needed.result (record { sfits = c.money_needed-needed.type_inv }), c.money_needed-needed.ensures.value)
    (λ there. c.self.invariant.covered c.args.account None there tt)

served : (c : goal.After-reply_to) → ServesPlain (market_in c.self.inside) (SetCredit c.args.account None c.args.ticks) (Plain c.reply_to.result) (record (market_in c.self.inside) { balances = c.set_money_credit.new.self })
served c =
    let answers = rw (same_number c.money_needed-needed.result (record { sfits = c.money_needed-needed.type_inv }), c.money_needed-needed.ensures.value) at c.set_money_credit.ensures in
    serves-credit NoOutcome (market_in c.self.inside) c.set_money_credit.new.self c.args.account None c.args.ticks c.set_money_credit.result c.reply_to.result
    answers.accepted answers.refused answers.ok answers.err c.reply_to.ensures

pub invariant_of-self : goal.invariant_of-self
invariant_of-self c = consistent-served (market_in c.self.inside) _ _ _ (rw (← c.self.view_is) at c.requires) c.self.invariant (served c)

pub returns : goal.returns
returns c = rw (← c.self.view_is) (served c)
