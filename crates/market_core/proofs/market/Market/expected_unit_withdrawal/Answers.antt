use Rattle.std.proofs.Common.{Some}
use Rattle.market_core.specs.Kept.{market_in}
use Rattle.market_core.proofs.Reserving.{same_number}
use Rattle.market_core.proofs.Expecting.{expects-withdrawal}
use Rattle.market_core.proofs.market.Market.expected_unit_withdrawal.Goals as goal

pub returns : goal.returns
returns c =
    let answers = rw (same_number c.units_needed-reserved.result (record { sfits = c.units_needed-reserved.type_inv }), c.units_needed-reserved.ensures.value) at c.unit_withdrawal.ensures in
    rw (← c.self.view_is) (expects-withdrawal (market_in c.self.inside) c.args.account (Some c.args.asset) c.args.units c.unit_withdrawal.result c.reply_to.result answers.accepted answers.refused c.reply_to.ensures)
