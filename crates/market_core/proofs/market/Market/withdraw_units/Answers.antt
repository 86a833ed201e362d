use Rattle.std.proofs.Common.{arith, Some}
use Rattle.wire_records.specs.Commands.{Withdraw, Plain}
use Rattle.flow_orders.specs.Orders.{needed_units}
use Rattle.market_rules.specs.Step.{ServesPlain, NoOutcome}
use Rattle.market_core.specs.Kept.{market_in}
use Rattle.market_core.proofs.Answering.{serves-withdrawal}
use Rattle.market_core.proofs.Fitting.{consistent_changes_fit, consistent-served, of_each}
use Rattle.market_core.proofs.Reserving.{same_number, needed_units_not_negative}
use Rattle.market_core.proofs.market.Market.withdraw_units.Goals as goal

pub withdraw_units-requires-clause-not_negative : goal.withdraw_units-requires-clause-not_negative
withdraw_units-requires-clause-not_negative c =
    rw (same_number c.units_needed-reserved.result (record { sfits = c.units_needed-reserved.type_inv }), c.units_needed-reserved.ensures.value)
    (needed_units_not_negative c.self.inside.book.orders c.args.account c.args.asset)

pub withdraw_units-requires-clause-covered : goal.withdraw_units-requires-clause-covered
withdraw_units-requires-clause-covered c =
    rw (same_number c.units_needed-reserved.result (record { sfits = c.units_needed-reserved.type_inv }), c.units_needed-reserved.ensures.value)
    (c.self.invariant.covered c.args.account (Some c.args.asset))

pub withdraw_units-requires-clause-fits : goal.withdraw_units-requires-clause-fits
withdraw_units-requires-clause-fits c =
    rw (same_number c.units_needed-reserved.result (record { sfits = c.units_needed-reserved.type_inv }), c.units_needed-reserved.ensures.value)
    ((consistent_changes_fit (market_in c.self.inside) c.self.invariant).unit_withdrawal c.args.account c.args.asset c.args.units
    (needed_units c.self.inside.book.orders c.args.account c.args.asset) (needed_units_not_negative c.self.inside.book.orders c.args.account c.args.asset))

served : (c : goal.After-reply_to) → ServesPlain (market_in c.self.inside) (Withdraw c.args.account (Some c.args.asset) c.args.units) (Plain c.reply_to.result) (record (market_in c.self.inside) { balances = c.withdraw_units.new.self })
served c =
    let answers = rw (same_number c.units_needed-reserved.result (record { sfits = c.units_needed-reserved.type_inv }), c.units_needed-reserved.ensures.value) at c.withdraw_units.ensures in
    serves-withdrawal NoOutcome (market_in c.self.inside) c.withdraw_units.new.self c.args.account (Some c.args.asset) c.args.units c.withdraw_units.result c.reply_to.result
    answers.accepted answers.refused answers.ok answers.err c.reply_to.ensures

pub invariant_of-self : goal.invariant_of-self
invariant_of-self c = consistent-served (market_in c.self.inside) _ _ _ (of_each c.self.inside.version (Withdraw c.args.account (Some c.args.asset) c.args.units) (omega arith) (omega arith)) c.self.invariant (served c)

pub returns : goal.returns
returns c = rw (← c.self.view_is) (served c)
