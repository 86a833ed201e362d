use Rattle.rate_rounding.proofs.Choosing.{raised_where, stays_where, priced_alike}
use Rattle.rate_rounding.proofs.choice.is_raised.Goals as goal

pub returns-then-demand : goal.returns-then-demand
returns-then-demand c prices floor ceil count =
    let tests = rw c.row.ensures.value at c.lessens.ensures in
    raised_where prices c.args.residuals.now c.args.order.now c.args.demand.floor c.args.demand.ceil floor ceil c.lessens.result c.row.ensures.order (priced_alike c.args.order.now.row c.args.residuals.now prices count c.requires.priced) c.if-demand.true tests

pub returns-else-demand : goal.returns-else-demand
returns-else-demand c prices floor ceil count = stays_where prices c.args.residuals.now c.args.order.now c.args.demand.floor c.args.demand.ceil floor ceil c.if-demand.false
