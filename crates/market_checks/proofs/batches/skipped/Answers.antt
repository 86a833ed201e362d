use Rattle.market_checks.proofs.batches.skipped.Goals as goal

pub returns : goal.returns
returns c = λ m. tt
