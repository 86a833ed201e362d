use Rattle.std.proofs.Common.{◌∙◌, w64, FitsSigned, length, ap, rules}
use Rattle.std.proofs.lemmas.Int.{to_z-of_z}
use Rattle.market_snapshot.proofs.Written.{order_written}
use Rattle.market_snapshot.proofs.orders.put_order.Goals as goal

pub returns-clause-written : goal.returns-clause-written
returns-clause-written c =
    let low : FitsSigned w64 c.low.result = search rules in
    let high : FitsSigned w64 c.high.result = search rules in
    let row = c.entries-entries.ensures.value ∙ c.row.ensures.value in
    rw (c.put_entries.ensures.written, c.put_u8.ensures.written, c.put_u32-3.ensures.written, c.put_u64-3.ensures.written, c.put_u64-2.ensures.written, c.put_u32-2.ensures.written, c.put_i64-2.ensures.written, c.put_i64.ensures.written, c.put_u32.ensures.written, c.put_u64.ensures.written)
    (rw (to_z-of_z w64 c.low.result low, to_z-of_z w64 c.high.result high)
    (order_written c.args.out.now.items c.args.order.now c.number.result c.account.result c.low.result c.high.result c.rate.result c.cap.result c.filled.result c.last.result (length c.entries-entries.result.now) c.entries-entries.result.now
    c.number.ensures.value c.account.ensures.value c.low.ensures.value c.high.ensures.value c.rate.ensures.value c.cap.ensures.value c.filled.ensures.value c.last.ensures.value (ap length row) row))
