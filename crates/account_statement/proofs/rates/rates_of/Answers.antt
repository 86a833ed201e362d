use Rattle.std.proofs.Common.{ap, sym, subst, ◌∙◌}
use Rattle.account_statement.specs.Private.{IsListed}
use Rattle.account_statement.proofs.rates.rates_of.Goals as goal

pub rate_of-requires-clause-listed : goal.rate_of-requires-clause-listed
rate_of-requires-clause-listed c =
    subst (IsListed c.args.view.now.clearing.fills) (ap (λ o. o.number) (sym c.order-item.is) ∙ sym c.number.ensures.value)
    (c.requires.listed c.loop-order.order-index c.order-item.result c.loop-order-test.true)
