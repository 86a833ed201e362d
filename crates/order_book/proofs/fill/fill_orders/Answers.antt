use Rattle.std.proofs.Common.{◌≡◌, ◌<◌, ◌≤◌, set, length, get_or, refl, ap, sym, subst, ◌∙◌, arith}
use Rattle.std.specs.List.{SwappedAt}
use Rattle.std.proofs.lemmas.List.{set-get_or}
use Rattle.flow_orders.specs.Orders.{Order}
use Rattle.flow_orders.specs.Trades.{Trade, trades}
use Rattle.flow_orders.proofs.TradeFacts.{before-trades}
use Rattle.order_book.proofs.Traded.{length-trades}
use Rattle.order_book.proofs.Filling.{IsFilledTo-none, IsFilledTo-leaves, IsFilledTo-stays, IsFilledTo-all, trade_at, inside_trades, within_room, fill_stays, fill_leaves}
use Rattle.order_book.proofs.fill.fill_orders.Goals as goal
use Rattle.order_book.proofs.fill.fill_orders.Goals.{then-not-add_fill, else-not-add_fill}

pub loop-place-init : goal.loop-place-init
loop-place-init c =
    let count : length c.args.rates.now ≡ length c.args.orders.now.items = omega (arith, c.requires.count, c.args.orders.now.ok.0) in
    record {
      filled = IsFilledTo-none _ c.args.orders.now.items (sym (before-trades c.args.orders.now.items c.args.rates.now count));
      len = refl;
      capacity = refl;
    }

pub add_fill-requires : goal.add_fill-requires
add_fill-requires c =
    let count : length c.args.rates.now ≡ length c.args.orders.now.items = omega (arith, c.requires.count, c.args.orders.now.ok.0) in
    let inside : c.loop-place.place < length c.args.orders.now.items = omega (arith, c.loop-place-test.true, c.len-place-end.ensures, c.args.orders.now.ok.0) in
    within_room c.args.orders.now.items c.args.rates.now c.loop-place.orders.items c.loop-place.kept c.loop-place.place c.index_mut.result.now count c.loop-place.invariant.filled inside c.index_mut.ensures.value c.requires.within

pub loop-place-preserved : goal.loop-place-preserved
loop-place-preserved c =
    let orders = c.args.orders.now.items in
    let rates = c.args.rates.now in
    let items = c.loop-place.orders.items in
    let place = c.loop-place.place in
    let o = c.index_mut.result.now in
    let count : length rates ≡ length orders = omega (arith, c.requires.count, c.args.orders.now.ok.0) in
    let inside : place < length orders = omega (arith, c.loop-place-test.true, c.len-place-end.ensures, c.args.orders.now.ok.0) in
    let t : Trade = record { order = o; traded = get_or rates place 0 } in
    let at : get_or (trades orders rates) place t ≡ t = trade_at orders rates items c.loop-place.kept place o count c.loop-place.invariant.filled inside c.index_mut.ensures.value in
    let within : place < length (trades orders rates) = inside_trades orders rates items c.loop-place.kept place o count c.loop-place.invariant.filled inside c.index_mut.ensures.value in
    elim c.if-not-add_fill.branch [
      | then-not-add_fill w ↦ rw (w.orders-is, w.kept-is) (
          let (filled, live) = fill_stays t c.add_fill.result c.add_fill.new.self w.if-not-add_fill.true c.add_fill.ensures.filled c.add_fill.ensures.order in
          record {
            filled = IsFilledTo-stays (trades orders rates) items c.loop-place.kept place t c.loop-place.invariant.filled within at w.swap.new.self.items live (subst (λ (y : Order). SwappedAt (set items place y) w.swap.new.self.items c.loop-place.kept place) filled w.swap.ensures.by_index);
            len = w.swap.ensures.len ∙ c.loop-place.invariant.len;
            capacity = w.swap.ensures.capacity ∙ c.loop-place.invariant.capacity;
          })
      | else-not-add_fill w ↦ rw (w.orders-is, w.kept-is) (
          let (same, full) = fill_leaves t c.add_fill.result c.add_fill.new.self w.if-not-add_fill.false c.add_fill.ensures.filled c.add_fill.ensures.full.0 in
          let items_stay : set items place c.add_fill.new.self ≡ items = ap (λ (y : Order). set items place y) (same ∙ c.index_mut.ensures.value) ∙ set-get_or items place o in
          record { filled = rw items_stay (IsFilledTo-leaves (trades orders rates) items c.loop-place.kept place t c.loop-place.invariant.filled within at full); len = c.loop-place.invariant.len; capacity = c.loop-place.invariant.capacity })
    ]

pub returns-clause-orders : goal.returns-clause-orders
returns-clause-orders c =
    let count : length c.args.rates.now ≡ length c.args.orders.now.items = omega (arith, c.requires.count, c.args.orders.now.ok.0) in
    let all : length (trades c.args.orders.now.items c.args.rates.now) ≤ c.loop-place.place = omega (arith, c.loop-place-test.false, c.len-place-end.ensures, c.args.orders.now.ok.0, length-trades c.args.orders.now.items c.args.rates.now count) in
    c.truncate.ensures.items ∙ IsFilledTo-all (trades c.args.orders.now.items c.args.rates.now) c.loop-place.orders.items c.loop-place.kept c.loop-place.place c.loop-place.invariant.filled all
