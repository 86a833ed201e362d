use Rattle.std.proofs.Common.{◌≡◌, ◌-◌, ◌<◌, length, get_or, rules, arith, ◌∙◌}
use Rattle.std.proofs.lemmas.List.{get_or_default}
use Rattle.desk_messages.proofs.Collecting.{cost_at, cost_here, none_collected, at_order, one_collected, all_collected}
use Rattle.desk_messages.proofs.fills.collect.Goals as goal

pub loop-first-init : goal.loop-first-init
loop-first-init c =
    let first : c.index.result.now ≡ get_or c.args.links.now.firsts.items c.args.account 0 = c.index.ensures ∙ get_or_default _ _ _ _ c.requires.account in
    (rw (c.clear.ensures.items, first) (none_collected c.args.account c.args.orders.now c.args.view.now.clearing _ _ _ c.requires.linked c.requires.account c.requires.fits.rates), c.clear.ensures.capacity)

pub overflow_sub-place : goal.overflow_sub-place
overflow_sub-place c = (at_order _ _ _ _ _ _ c.loop-first.invariant.0 c.loop-first-test.true).within

pub index-requires-in-loop-first : goal.index-requires-in-loop-first
index-requires-in-loop-first c =
    let at = at_order _ _ _ _ _ _ c.loop-first.invariant.0 c.loop-first-test.true in
    search (rules, at.inside)

pub loop-first-smaller : goal.loop-first-smaller
loop-first-smaller c =
    let at = at_order _ _ _ _ _ _ c.loop-first.invariant.0 c.loop-first-test.true in
    let next : c.index-in-loop-first.result.now ≡ get_or c.args.links.now.nexts.items (c.loop-first.first - 1) 0 = c.index-in-loop-first.ensures ∙ get_or_default _ _ _ _ at.inside in
    rw next at.nearer

pub loop-first-preserved : goal.loop-first-preserved
loop-first-preserved c =
    let at = at_order _ _ _ _ _ _ c.loop-first.invariant.0 c.loop-first-test.true in
    let next : c.index-in-loop-first.result.now ≡ get_or c.args.links.now.nexts.items (c.loop-first.first - 1) 0 = c.index-in-loop-first.ensures ∙ get_or_default _ _ _ _ at.inside in
    let place : length c.args.orders.now - c.loop-first.first < length c.args.orders.now = omega (arith, at.within, c.loop-first-test.true) in
    let cost : c.fill_cost.result ≡ cost_at c.args.orders.now c.args.view.now.clearing (length c.args.orders.now - c.loop-first.first) =
    cost_here c.args.orders.now c.args.view.now.clearing _ _ _ _ _ place c.index-orders-place.is c.rate_at.ensures c.requires.prices c.fill_cost.ensures in (
      rw (c.push_reserved.ensures.items, cost, next) (one_collected _ _ _ _ _ _ c.loop-first.invariant.0 c.loop-first-test.true),
      c.push_reserved.ensures.capacity ∙ c.loop-first.invariant.1,
    )

pub returns-clause-own : goal.returns-clause-own
returns-clause-own c =
    let none : c.loop-first.first ≡ 0 = omega (arith, c.loop-first-test.false) in
    all_collected _ _ _ _ _ (rw none at c.loop-first.invariant.0)
