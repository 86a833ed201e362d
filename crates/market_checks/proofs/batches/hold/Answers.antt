use Rattle.market_checks.proofs.batches.hold.Goals as goal

pub settle-requires-clause-right : goal.settle-requires-clause-right
settle-requires-clause-right c = c.requires.skipped c.loop-market.market
