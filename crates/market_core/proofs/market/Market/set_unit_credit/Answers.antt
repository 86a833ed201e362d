use Rattle.std.proofs.Common.{Some}
use Rattle.wire_records.specs.Commands.{SetCredit, Plain}
use Rattle.market_rules.specs.Step.{ServesPlain, NoOutcome}
use Rattle.market_core.specs.Kept.{market_in}
use Rattle.market_core.proofs.Answering.{serves-credit}
use Rattle.market_core.proofs.Fitting.{consistent-served}
use Rattle.market_core.proofs.Reserving.{same_number, needed_units_not_negative}
use Rattle.market_core.proofs.market.Market.set_unit_credit.Goals as goal

pub set_unit_credit-requires-clause-not_negative : goal.set_unit_credit-requires-clause-not_negative
set_unit_credit-requires-clause-not_negative c =
    rw (same_number c.units_needed-needed.result (record { sfits = c.units_needed-needed.type_inv }), c.units_needed-needed.ensures.value)
    (needed_units_not_negative c.self.inside.book.orders c.args.account c.args.asset)

pub set_unit_credit-requires-clause-covered : goal.set_unit_credit-requires-clause-covered
set_unit_credit-requires-clause-covered c =
    rw (same_number c.units_needed-needed.result (record { sfits = c.units_needed-needed.type_inv }), c.units_needed-needed.ensures.value)
    (c.self.invariant.covered c.args.account (Some c.args.asset))

served : (c : goal.After-reply_to) → ServesPlain (market_in c.self.inside) (SetCredit c.args.account (Some c.args.asset) c.args.units) (Plain c.reply_to.result) (record (market_in c.self.inside) { balances = c.set_unit_credit.new.self })
served c =
    let answers = rw (same_number c.units_needed-needed.result (record { sfits = c.units_needed-needed.type_inv }), c.units_needed-needed.ensures.value) at c.set_unit_credit.ensures in
    serves-credit NoOutcome (market_in c.self.inside) c.set_unit_credit.new.self c.args.account (Some c.args.asset) c.args.units c.set_unit_credit.result c.reply_to.result
    answers.accepted answers.refused answers.ok answers.err c.reply_to.ensures

pub invariant_of-self : goal.invariant_of-self
invariant_of-self c = consistent-served (market_in c.self.inside) _ _ _ (rw (← c.self.view_is) at c.requires) c.self.invariant (served c)

pub returns : goal.returns
returns c = rw (← c.self.view_is) (served c)
