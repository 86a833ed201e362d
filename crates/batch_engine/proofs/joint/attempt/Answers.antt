use Rattle.batch_engine.proofs.Tried.{found_is_attempted, end_count}
use Rattle.batch_engine.proofs.joint.attempt.Goals as goal

pub returns-clause-count : goal.returns-clause-count
returns-clause-count c = end_count c.args.parts c.args.work.now.orders c.args.work.now.prices _ _ c.search.ensures.legal c.search.ensures.prices

pub returns-clause-tried : goal.returns-clause-tried
returns-clause-tried c = found_is_attempted c.args.parts c.args.work.now.orders c.args.work.now.prices c.args.budget c.search.result _ _ c.search.ensures.found c.search.ensures.prices
