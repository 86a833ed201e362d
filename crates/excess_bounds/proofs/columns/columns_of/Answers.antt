use Rattle.std.proofs.Common.{◌≡◌, ◌<◌, length, take, ap, sym, ◌∙◌}
use Rattle.std.proofs.lemmas.List.FromFn.{length-map-range_with_len}
use Rattle.std.specs.Prelude.{All}
use Rattle.weight_rows.specs.declared.entries.Entry.{Entry}
use Rattle.excess_bounds.specs.Columns.{column_of}
use Rattle.excess_bounds.proofs.Kept.{written_back}
use Rattle.excess_bounds.proofs.Listing.{columns_more, columns_short}
use Rattle.excess_bounds.proofs.columns.columns_of.Goals as goal

pub list-requires-clause-there : goal.list-requires-clause-there
list-requires-clause-there c =
    let count : length c.deref_mut.result.now ≡ length c.args.prices.now =
    ap length (c.deref_mut.ensures.value ∙ c.loop-place.invariant) ∙ length-map-range_with_len (column_of (take c.loop-place.place c.args.orders.now)) 0 (length c.args.prices.now) in
    rw (count, c.index-orders-place.is) (c.requires.priced c.loop-place.place c.index-orders-place.result c.loop-place-test.true)

pub list-requires-clause-room : goal.list-requires-clause-room
list-requires-clause-room c = columns_short _ _ _ _ (c.deref_mut.ensures.value ∙ c.loop-place.invariant)

pub loop-place-preserved : goal.loop-place-preserved
loop-place-preserved c =
    let kept : length c.list.new.columns ≡ length c.deref_mut.result.now = c.list.auto.columns in
    let back = written_back c.loop-place.columns.len c.list.new.columns c.loop-place.columns.items (kept ∙ c.deref_mut.ensures.len) (ap length (sym c.deref_mut.ensures.value) ∙ c.deref_mut.ensures.len) in
    let there : All (λ (e : Entry). e.asset < length c.args.prices.now) c.index-orders-place.result.row =
    rw c.index-orders-place.is (c.requires.priced c.loop-place.place c.index-orders-place.result c.loop-place-test.true) in
    rw back
    (columns_more c.args.orders.now c.loop-place.place (length c.args.prices.now) c.index-orders-place.result c.deref_mut.result.now c.list.new.columns c.loop-place-test.true c.index-orders-place.is
    c.in_ok-list.ensures.order.row there (c.deref_mut.ensures.value ∙ c.loop-place.invariant) c.in_ok-list.ensures.columns)
