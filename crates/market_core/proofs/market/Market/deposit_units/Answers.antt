use Rattle.std.proofs.Common.{arith, Some}
use Rattle.wire_records.specs.Commands.{Deposit, Plain}
use Rattle.market_rules.specs.Step.{ServesPlain, NoOutcome}
use Rattle.market_core.specs.Kept.{market_in}
use Rattle.market_core.proofs.Answering.{serves-deposit}
use Rattle.market_core.proofs.Fitting.{consistent_changes_fit, consistent-served, of_each}
use Rattle.market_core.proofs.market.Market.deposit_units.Goals as goal

pub deposit_units-requires : goal.deposit_units-requires
deposit_units-requires c = record { fits = (consistent_changes_fit (market_in c.self.inside) c.self.invariant).unit_deposit c.args.account c.args.asset c.args.units }

served : (c : goal.After-reply_to) → ServesPlain (market_in c.self.inside) (Deposit c.args.account (Some c.args.asset) c.args.units) (Plain c.reply_to.result) (record (market_in c.self.inside) { balances = c.deposit_units.new.self })
served c =
    let answers = c.deposit_units.ensures in
    serves-deposit NoOutcome (market_in c.self.inside) c.deposit_units.new.self c.args.account (Some c.args.asset) c.args.units c.deposit_units.result c.reply_to.result
    answers.accepted answers.refused answers.ok answers.err c.reply_to.ensures

pub invariant_of-self : goal.invariant_of-self
invariant_of-self c = consistent-served (market_in c.self.inside) _ _ _ (of_each c.self.inside.version (Deposit c.args.account (Some c.args.asset) c.args.units) (omega arith) (omega arith)) c.self.invariant (served c)

pub returns : goal.returns
returns c = rw (← c.self.view_is) (served c)
