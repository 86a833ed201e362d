use Rattle.std.proofs.Common.{◌≡◌, ◌∙◌, ap, sym, length}
use Rattle.excess_bounds.proofs.Kept.{written_back}
use Rattle.batch_engine.proofs.Tried.{started}
use Rattle.batch_engine.proofs.joint.set_joint_prices.Goals as goal

-- the prices are those that were cut
set_is : (c : goal.After-deref) → c.deref.result.now ≡ c.cut_all.new.prices
set_is c =
    c.deref.ensures.value
    ∙ written_back c.in_ok-prices.prices.len c.cut_all.new.prices c.in_ok-prices.prices.items (c.cut_all.auto.prices ∙ c.deref_mut.ensures.len) (ap length (sym c.deref_mut.ensures.value) ∙ c.deref_mut.ensures.len)

pub cut_all-requires-clause-count : goal.cut_all-requires-clause-count
cut_all-requires-clause-count c = ap length c.deref_mut.ensures.value ∙ c.in_ok-prices.ensures.count

pub set_prices-requires-clause-count : goal.set_prices-requires-clause-count
set_prices-requires-clause-count c =
    ap length (set_is c) ∙ c.cut_all.auto.prices ∙ ap length c.deref_mut.ensures.value ∙ c.in_ok-prices.ensures.count ∙ sym (c.in_ok-prices.ensures.assets ∙ c.requires.count)

pub returns-clause-orders : goal.returns-clause-orders
returns-clause-orders c = c.set_prices.ensures.orders ∙ c.in_ok-prices.ensures.orders

pub returns-clause-prices : goal.returns-clause-prices
returns-clause-prices c =
    let mid = c.in_ok-prices.ensures.orders ∙ c.requires.orders in
    c.set_prices.ensures.prices
    ∙ started c.args.orders.now _ _ c.args.start.now _ c.deref.result.now _ c.requires.orders mid c.requires.count (c.deref_mut.ensures.value ∙ c.in_ok-prices.ensures.found) (set_is c.before.before ∙ c.cut_all.ensures.value)
