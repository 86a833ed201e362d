use Rattle.std.proofs.Common.{pos}
use Rattle.sample_market.proofs.Drawn.{price_more}
use Rattle.weight_rows.specs.declared.entries.Entry.{Entry}
use Rattle.sample_market.proofs.orders.usual_price.Goals as goal

pub loop-entry-preserved : goal.loop-entry-preserved
loop-entry-preserved c =
    let none : Entry = record { asset = 0; weight = pos 0 } in
    let before = c.loop-entry.invariant in
    let more =
    price_more c.args.entries.now c.loop-entry.entry-index _ c.entry_price-sum.result none c.requires c.loop-entry-test.true (record { sfits = c.entry_price-sum.type_inv }) (record { value = before.value; bound = before.bound }) c.entry_price-sum.ensures.value
    c.entry_price-sum.ensures.bound
    in
    record { value = more.value; bound = more.bound }
