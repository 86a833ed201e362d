use Rattle.std.proofs.Common.{◌∙◌, sym, subst}
use Rattle.std.specs.Prelude.{All}
use Rattle.flow_orders.specs.Orders.{IsOrder}
use Rattle.excess_bounds.specs.Workspace.{AreQuoted}
use Rattle.canonical_rule.specs.Attempts.{attempts, EndsFirst}
use Rattle.batch_engine.specs.Private.{IsSearched, IsSpent}
use Rattle.batch_engine.proofs.CanonicalClearing.{searched_is_canonical, skipped_is_canonical}
use Rattle.batch_engine.proofs.batch.clear_wide.Goals as goal

pub clear_at-requires : goal.clear_at-requires
clear_at-requires c = subst (λ orders. AreQuoted orders c.into_quoted.result.prices.items c.into_quoted.result.quotes.items) (c.in_ok-find_prices.ensures.orders ∙ c.in_ok-work.ensures.orders) c.into_quoted.ensures.quoted

pub returns-in_ok-cleared-in-Settled : goal.returns-in_ok-cleared-in-Settled
returns-in_ok-cleared-in-Settled c =
    let same = c.in_ok-find_prices.ensures.orders ∙ c.in_ok-work.ensures.orders in
    let search = c.args.search in
    let orders = c.args.orders.now in
    let start = c.args.start.now in
    let found = subst (λ f. IsSearched search orders start c.args.budget f c.find_prices.new.book.work.prices c.find_prices.new.trace.items) c.in-Settled.is c.in_ok-find_prices.ensures.searched in
    record {
      own = searched_is_canonical search c.requires.some_parts orders start c.into_quoted.result.prices.items c.args.budget c.in_ok-cleared-in-Settled.cleared (subst (All IsOrder) same c.into_quoted.ensures.quoted.priced.each) c.requires.range c.requires.budget.1
          c.requires.wide (subst (EndsFirst search.parts orders (attempts search.joint orders start c.args.budget)) (sym c.into_quoted.ensures.prices) found) c.in_ok-cleared-in-Settled.ensures;
    }

pub returns-in-Spent : goal.returns-in-Spent
returns-in-Spent c =
    let same = c.in_ok-find_prices.ensures.orders ∙ c.in_ok-work.ensures.orders in
    let search = c.args.search in
    let orders = c.args.orders.now in
    let start = c.args.start.now in
    let found = subst (λ f. IsSearched search orders start c.args.budget f c.find_prices.new.book.work.prices c.find_prices.new.trace.items) c.in-Spent.is c.in_ok-find_prices.ensures.searched in
    record {
      own = skipped_is_canonical search orders start c.prices.result.now c.args.budget c.find_prices.new.trace.items c.new-in-Spent.result c.dual_floor.result c.dual_floor-in-Spent.result
          (subst (All IsOrder) same c.prices.ensures.priced.each) c.requires.wide (subst (λ p. IsSpent search orders start c.args.budget p c.find_prices.new.trace.items) (sym c.prices.ensures.value) found) c.new-in-Spent.ensures
          c.dual_floor.ensures.value c.dual_floor-in-Spent.ensures.value c.dual_floor.ensures.most c.dual_floor-in-Spent.ensures.most;
    }
