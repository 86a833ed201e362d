use Rattle.std.proofs.Common.{◌≡◌, ◌-◌, ◌<◌, ℕ, length, get_or, sym, ap, ◌∙◌, arith}
use Rattle.std.proofs.lemmas.List.{get_or-map, get_or_default}
use Rattle.flow_orders.specs.Orders.{Order}
use Rattle.desk_messages.specs.Private.{owners}
use Rattle.desk_messages.proofs.Chains.{one_linked}
use Rattle.desk_messages.proofs.links.links_of.Goals as goal

pub loop-follow-preserved : goal.loop-follow-preserved
loop-follow-preserved c =
    let orders = c.args.orders.now in
    let place : ℕ = length orders - 1 - c.loop-follow.follow in
    let order = c.index-orders-orders.result in
    let inside : place < length orders = omega (arith, c.loop-follow-test.true) in
    let owner : c.account.result ≡ (get_or orders place order).account = c.account.ensures.value ∙ ap (λ (o : Order). o.account) c.index-orders-orders.is in
    let there = c.requires.there place order inside in
    let is : get_or (owners orders) place 0 ≡ c.account.result = get_or-map (λ (o : Order). o.account) orders place order 0 inside ∙ sym owner in
    let first : c.index.result.now ≡ get_or c.loop-follow.firsts.items (c.account.result - 1) 0 = c.index.ensures ∙ get_or_default c.loop-follow.firsts.items (c.account.result - 1) c.index.result.now 0 (omega (arith, owner, there.0, there.1, c.loop-follow.invariant.0.each)) in
    let linked = one_linked orders c.args.accounts c.loop-follow.follow c.loop-follow.firsts.items c.loop-follow.nexts.items c.account.result c.loop-follow-test.true c.loop-follow.invariant.0
    (omega (arith, owner, there.0)) (omega (arith, owner, there.1)) is in
    (rw (c.push_reserved.ensures.items, first) linked, omega (arith, c.push_reserved.ensures.len, c.loop-follow.invariant.1), omega (arith, c.push_reserved.ensures.capacity, c.loop-follow.invariant.2))
