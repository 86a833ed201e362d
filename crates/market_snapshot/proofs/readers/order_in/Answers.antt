use Rattle.std.proofs.Common.{◌∙◌, ◌+◌, ◌*◌, FitsSigned, w64, sym, rules}
use Rattle.std.proofs.lemmas.Int.{to_z-of_z}
use Rattle.std.proofs.lemmas.List.FromFn.{length-map-range_with_len}
use Rattle.market_snapshot.specs.Layout.{entry_at, entries_at, order_at}
use Rattle.market_snapshot.proofs.ReadThere.{same_numbers}
use Rattle.market_snapshot.proofs.readers.order_in.Goals as goal

pub returns : goal.returns
returns c =
    let place = c.args.place in
    let bytes = c.args.bytes.now in
    let low : FitsSigned w64 c.i64_at.result = search rules in
    let high : FitsSigned w64 c.i64_at-2.result = search rules in
    let entries = length-map-range_with_len (λ j. entry_at (place + 53 + 6 * j) bytes) 0 (entries_at place bytes) in
    same_numbers (order_at place bytes) _ _ _ _ _ _ _ _ _ c.u64_at.ensures c.u32_at.ensures (to_z-of_z w64 _ low ∙ c.i64_at.ensures) (to_z-of_z w64 _ high ∙ c.i64_at-2.ensures)
    c.u32_at-2.ensures c.u64_at-2.ensures c.u64_at-3.ensures c.u32_at-3.ensures (c.u8_at.ensures ∙ sym entries)
