use Rattle.std.proofs.Common.{◌∙◌, arith}
use Rattle.order_book.proofs.OrderNeeds.{needs_are}
use Rattle.order_book.proofs.sums.NeedSums.lower_for.Goals as goal

pub lower_entries-requires-clause-there : goal.lower_entries-requires-clause-there
lower_entries-requires-clause-there c need =
    let all = needs_are c.args.units need c.args.order.now c.account-account.result c.money_for.result c.entries.result.now c.account-account.ensures.order.row c.account-account.ensures.value c.money_for.ensures (c.entries.ensures.value ∙ c.row.ensures.value) in
    omega (arith, all, c.lower.ensures.lowered need, c.requires.there need)

pub returns-clause-lowered : goal.returns-clause-lowered
returns-clause-lowered c need =
    let all = needs_are c.args.units need c.args.order.now c.account-account.result c.money_for.result c.entries.result.now c.account-account.ensures.order.row c.account-account.ensures.value c.money_for.ensures (c.entries.ensures.value ∙ c.row.ensures.value) in
    omega (arith, all, c.lower.ensures.lowered need, c.lower_entries.ensures.lowered need)
