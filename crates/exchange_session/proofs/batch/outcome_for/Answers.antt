use Rattle.market_rules.proofs.Accepted.{past_unless}
use Rattle.exchange_session.proofs.Writable.{few_start_prices, writable_if_ok}
use Rattle.exchange_session.proofs.batch.outcome_for.Goals as goal

pub returns-clause-writable : goal.returns-clause-writable
returns-clause-writable c =
    let is = c.clear.ensures in
    rw (← c.orders.ensures.value)
    (writable_if_ok c.search-search.result c.orders.result.now c.as_slice.result.now c.args.budget c.clear.result
    (rw (c.as_slice.ensures, c.in_ok-start.ensures.value) (few_start_prices c.args.market.now c.orders.ensures.consistent)) (past_unless c.requires.first).0.1 is.one_rate_each is.right)
