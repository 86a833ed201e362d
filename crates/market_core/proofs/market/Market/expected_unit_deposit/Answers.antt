use Rattle.std.proofs.Common.{Some}
use Rattle.market_core.specs.Kept.{market_in}
use Rattle.market_core.proofs.Expecting.{expects-deposit}
use Rattle.market_core.proofs.market.Market.expected_unit_deposit.Goals as goal

pub returns : goal.returns
returns c =
    let answers = c.unit_deposit.ensures in
    rw (← c.self.view_is) (expects-deposit (market_in c.self.inside) c.args.account (Some c.args.asset) c.args.units c.unit_deposit.result c.reply_to.result answers.accepted answers.refused c.reply_to.ensures)
