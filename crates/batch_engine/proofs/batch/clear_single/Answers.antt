use Rattle.std.proofs.Common.{◌∙◌, subst}
use Rattle.std.specs.Prelude.{All}
use Rattle.flow_orders.specs.Orders.{IsOrder}
use Rattle.excess_bounds.specs.Workspace.{AreQuoted}
use Rattle.batch_engine.proofs.CanonicalClearing.{single_is_own}
use Rattle.batch_engine.proofs.batch.clear_single.Goals as goal

pub clear_at-requires : goal.clear_at-requires
clear_at-requires c = subst (λ orders. AreQuoted orders c.into_quoted.result.prices.items c.into_quoted.result.quotes.items) (c.settle_single.ensures.orders ∙ c.in_ok-work.ensures.orders) c.into_quoted.ensures.quoted

pub returns : goal.returns
returns c =
    let same = c.settle_single.ensures.orders ∙ c.in_ok-work.ensures.orders in
    let moved = c.into_quoted.ensures.prices ∙ rw (c.in_ok-work.ensures.orders, c.in_ok-work.ensures.prices) at c.settle_single.ensures.prices in
    record {
      cleared = single_is_own c.args.search c.requires.some_parts c.args.orders.now c.args.start.now c.into_quoted.result.prices.items c.clear_at.result (subst (All IsOrder) same c.into_quoted.ensures.quoted.priced.each) c.requires.range c.requires.single moved
          c.clear_at.ensures;
    }
