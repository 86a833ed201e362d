use Rattle.std.proofs.Common.{◌∙◌, subst}
use Rattle.batch_engine.specs.Private.{AreTried}
use Rattle.batch_engine.proofs.Tried.{searched_at_last}
use Rattle.batch_engine.proofs.joint.find_prices.Goals as goal

pub returns-in-Spent-clause-searched : goal.returns-in-Spent-clause-searched
returns-in-Spent-clause-searched c =
    let search = c.args.search in
    let orders = c.args.orders.now in
    let start = c.args.start.now in
    let tried = subst (λ f. AreTried search orders start c.args.budget f c.try_joint_prices.new.book.work.prices c.try_joint_prices.new.trace.items) c.in-Spent.is c.in_ok-try_joint_prices.ensures.tried in
    let same = c.in_ok-try_joint_prices.ensures.orders ∙ c.requires.orders in
    searched_at_last search orders start c.args.budget c.search.result c.search.new.work.prices c.search.new.trace.items tried.0
    (rw (same, tried.1) at c.search.ensures.found) (rw (same, tried.1) at c.search.ensures.prices)
