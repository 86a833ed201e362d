use Rattle.std.proofs.Common.{arith, None}
use Rattle.wire_records.specs.Commands.{Deposit, Plain}
use Rattle.market_rules.specs.Step.{ServesPlain, NoOutcome}
use Rattle.market_core.specs.Kept.{market_in}
use Rattle.market_core.proofs.Answering.{serves-deposit}
use Rattle.market_core.proofs.Fitting.{consistent_changes_fit, consistent-served, of_each}
use Rattle.market_core.proofs.market.Market.deposit_money.Goals as goal

pub deposit_money-requires : goal.deposit_money-requires
deposit_money-requires c = record { fits = (consistent_changes_fit (market_in c.self.inside) c.self.invariant).money_deposit c.args.account c.args.ticks }

served : (c : goal.After-reply_to) → ServesPlain (market_in c.self.inside) (Deposit c.args.account None c.args.ticks) (Plain c.reply_to.result) (record (market_in c.self.inside) { balances = c.deposit_money.new.self })
served c =
    let answers = c.deposit_money.ensures in
    serves-deposit NoOutcome (market_in c.self.inside) c.deposit_money.new.self c.args.account None c.args.ticks c.deposit_money.result c.reply_to.result
    answers.accepted answers.refused answers.ok answers.err c.reply_to.ensures

pub invariant_of-self : goal.invariant_of-self
invariant_of-self c = consistent-served (market_in c.self.inside) _ _ _ (of_each c.self.inside.version (Deposit c.args.account None c.args.ticks) (omega arith) (omega arith)) c.self.invariant (served c)

pub returns : goal.returns
returns c = rw (← c.self.view_is) (served c)
