use Rattle.std.proofs.Common.{◌∙◌, arith}
use Rattle.order_book.proofs.OrderNeeds.{needs_are}
use Rattle.order_book.proofs.sums.NeedSums.raise_for.Goals as goal

pub raise_entries-requires-clause-fits : goal.raise_entries-requires-clause-fits
raise_entries-requires-clause-fits c need =
    let all = needs_are c.args.units need c.args.order.now c.account-account.result c.money_for.result c.entries.result.now c.account-account.ensures.order.row c.account-account.ensures.value c.money_for.ensures (c.entries.ensures.value ∙ c.row.ensures.value) in
    omega (arith, all, c.raise.ensures.raised need, c.requires.fits need)

pub returns-clause-raised : goal.returns-clause-raised
returns-clause-raised c need =
    let all = needs_are c.args.units need c.args.order.now c.account-account.result c.money_for.result c.entries.result.now c.account-account.ensures.order.row c.account-account.ensures.value c.money_for.ensures (c.entries.ensures.value ∙ c.row.ensures.value) in
    omega (arith, all, c.raise.ensures.raised need, c.raise_entries.ensures.raised need)
