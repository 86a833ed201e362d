use Rattle.std.proofs.Common.{◌≡◌, ◌∙◌, ◌++◌, w64, pos, length, ap, sym, arith}
use Rattle.std.proofs.lemmas.Int.{to_z-of_z}
use Rattle.wire_fields.specs.Numbers.{unsigned, signed}
use Rattle.market_snapshot.proofs.Written.{value_of, none_written, one_more, all_written, batches_written}
use Rattle.market_snapshot.proofs.writing.put_batches.Goals as goal

pub loop-asset-init : goal.loop-asset-init
loop-asset-init c =
    let old = c.args.out.now.items in
    let m = c.args.market.now in
    record {
      written =
          c.put_u32.ensures.written ∙ ap (λ z. z ++ unsigned 4 c.batches.result) (c.put_u64.ensures.written ∙ ap (λ n. old ++ unsigned 8 n) c.next_number.ensures.value)
          ∙ ap (λ n. (old ++ unsigned 8 m.next_order) ++ unsigned 4 n) c.batches.ensures.value
          ∙ none_written (signed 8) m.last_prices ((old ++ unsigned 8 m.next_order) ++ unsigned 4 m.batches);
      len = omega (arith, c.put_u32.ensures.len, c.put_u64.ensures.len);
      capacity = c.put_u32.ensures.capacity ∙ c.put_u64.ensures.capacity;
    }

pub put_i64-requires : goal.put_i64-requires
put_i64-requires c =
    let consistent = c.next_number.ensures.consistent in
    let count : c.len-asset-end.result ≡ length c.args.market.now.last_prices = c.len-asset-end.ensures.count ∙ ap length c.tickers.ensures.value ∙ consistent.one_each.tickers ∙ sym consistent.one_each.prices in
    omega (arith, count, c.loop-asset-test.true, c.loop-asset.invariant.len, c.loop-asset.invariant.capacity, c.requires)

pub loop-asset-preserved : goal.loop-asset-preserved
loop-asset-preserved c =
    let m = c.args.market.now in
    let k = c.loop-asset.asset in
    let consistent = c.next_number.ensures.consistent in
    let count : c.len-asset-end.result ≡ length m.last_prices = c.len-asset-end.ensures.count ∙ ap length c.tickers.ensures.value ∙ consistent.one_each.tickers ∙ sym consistent.one_each.prices in
    let price = value_of _ _ _ _ c.last_price.ensures.value c.unwrap.ensures in
    let put = c.put_i64.ensures.written ∙ ap (λ z. c.loop-asset.out.items ++ signed 8 z) (to_z-of_z w64 c.unwrap.result (record { sfits = c.unwrap.type_inv })) in
    record {
      written = one_more (signed 8) m.last_prices k (pos 0) c.unwrap.result ((c.args.out.now.items ++ unsigned 8 m.next_order) ++ unsigned 4 m.batches) c.loop-asset.out.items c.put_i64.new.out.items (omega (arith, c.loop-asset-test.true, count)) (sym price) c.loop-asset.invariant.written put;
      len = omega (arith, c.loop-asset.invariant.len, c.put_i64.ensures.len);
      capacity = c.put_i64.ensures.capacity ∙ c.loop-asset.invariant.capacity;
    }

pub returns-clause-written : goal.returns-clause-written
returns-clause-written c =
    let m = c.args.market.now in
    let consistent = c.next_number.ensures.consistent in
    let count : c.len-asset-end.result ≡ length m.last_prices = c.len-asset-end.ensures.count ∙ ap length c.tickers.ensures.value ∙ consistent.one_each.tickers ∙ sym consistent.one_each.prices in
    batches_written c.args.out.now.items c.loop-asset.out.items m.next_order m.batches m.last_prices
    (all_written (signed 8) m.last_prices c.loop-asset.asset ((c.args.out.now.items ++ unsigned 8 m.next_order) ++ unsigned 4 m.batches) c.loop-asset.out.items (omega (arith, c.loop-asset-test.false, count)) c.loop-asset.invariant.written)

pub returns-clause-len : goal.returns-clause-len
returns-clause-len c =
    let consistent = c.next_number.ensures.consistent in
    let count : c.len-asset-end.result ≡ length c.args.market.now.last_prices = c.len-asset-end.ensures.count ∙ ap length c.tickers.ensures.value ∙ consistent.one_each.tickers ∙ sym consistent.one_each.prices in
    omega (arith, count, c.loop-asset.invariant.len, c.loop-asset-test.false, c.loop-asset.auto.asset-end)
