use Rattle.std.proofs.Common.{◌≡◌, ◌∙◌, ◌++◌, ◌<◌, List, ℕ, length, get_or, ap, sym, arith}
use Rattle.std.proofs.lemmas.Option.{get_or_from_slice_get}
use Rattle.wire_fields.specs.Numbers.{unsigned}
use Rattle.wire_records.specs.Versions.{number_of}
use Rattle.market_snapshot.specs.Checkpoints.{checkpoint_magic}
use Rattle.market_snapshot.proofs.Written.{none_written, one_more, all_written, tickers_written}
use Rattle.market_snapshot.proofs.writing.put_tickers.Goals as goal

pub loop-asset-init : goal.loop-asset-init
loop-asset-init c =
    let old = c.args.out.now.items in
    let tickers = c.args.tickers.now in
    record {
      written =
          c.put_u16.ensures.written ∙ ap (λ z. z ++ unsigned 2 c.len.result) (c.put_u8.ensures.written ∙ ap (λ z. z ++ unsigned 1 c.number.result) c.put_bytes.ensures.written)
          ∙ ap (λ n. ((old ++ checkpoint_magic) ++ unsigned 1 n) ++ unsigned 2 c.len.result) c.number.ensures
          ∙ ap (λ n. ((old ++ checkpoint_magic) ++ unsigned 1 (number_of c.args.version)) ++ unsigned 2 n) c.len.ensures.count
          ∙ none_written (λ (t : List ℕ). t) tickers (((old ++ checkpoint_magic) ++ unsigned 1 (number_of c.args.version)) ++ unsigned 2 (length tickers));
      len = omega (arith, c.put_u16.ensures.len, c.put_u8.ensures.len, c.put_bytes.ensures.len);
      capacity = c.put_u16.ensures.capacity ∙ c.put_u8.ensures.capacity ∙ c.put_bytes.ensures.capacity;
    }

-- the ticker of one round of the loop
here : (c : goal.After-put_bytes-in-loop-asset) → get_or c.args.tickers.now c.loop-asset.asset c.unwrap.result ≡ c.unwrap.result
here c = get_or_from_slice_get c.args.tickers.now c.loop-asset.asset c.unwrap.result c.unwrap.result (sym c.ticker.ensures.value ∙ c.unwrap.ensures)

pub put_bytes-requires-in-loop-asset : goal.put_bytes-requires-in-loop-asset
put_bytes-requires-in-loop-asset c =
    let tickers = c.args.tickers.now in
    let k = c.loop-asset.asset in
    let x = c.unwrap.result in
    let inside : k < length tickers = omega (arith, c.loop-asset-test.true, c.len-asset-end.ensures.count) in
    let same : get_or tickers k x ≡ x = get_or_from_slice_get tickers k x x (sym c.ticker.ensures.value ∙ c.unwrap.ensures) in
    let size : length x ≡ 8 = ap length (sym same) ∙ (c.len-asset-end.ensures.tickers.valid k x inside).whole in
    omega (arith, inside, size, c.loop-asset.invariant.len, c.loop-asset.invariant.capacity, c.requires)

pub loop-asset-preserved : goal.loop-asset-preserved
loop-asset-preserved c =
    let tickers = c.args.tickers.now in
    let k = c.loop-asset.asset in
    let x = c.unwrap.result in
    let inside : k < length tickers = omega (arith, c.loop-asset-test.true, c.len-asset-end.ensures.count) in
    let size : length x ≡ 8 = ap length (sym (here c)) ∙ (c.len-asset-end.ensures.tickers.valid k x inside).whole in
    record {
      written = one_more (λ (t : List ℕ). t) tickers k x x (((c.args.out.now.items ++ checkpoint_magic) ++ unsigned 1 (number_of c.args.version)) ++ unsigned 2 (length tickers)) c.loop-asset.out.items c.put_bytes-in-loop-asset.new.out.items inside (here c) c.loop-asset.invariant.written c.put_bytes-in-loop-asset.ensures.written;
      len = omega (arith, size, c.loop-asset.invariant.len, c.put_bytes-in-loop-asset.ensures.len);
      capacity = c.put_bytes-in-loop-asset.ensures.capacity ∙ c.loop-asset.invariant.capacity;
    }

pub returns-clause-written : goal.returns-clause-written
returns-clause-written c =
    let tickers = c.args.tickers.now in
    tickers_written c.args.out.now.items c.loop-asset.out.items (number_of c.args.version) tickers
    (all_written (λ (t : List ℕ). t) tickers c.loop-asset.asset (((c.args.out.now.items ++ checkpoint_magic) ++ unsigned 1 (number_of c.args.version)) ++ unsigned 2 (length tickers)) c.loop-asset.out.items
    (omega (arith, c.loop-asset-test.false, c.len-asset-end.ensures.count)) c.loop-asset.invariant.written)

pub returns-clause-len : goal.returns-clause-len
returns-clause-len c = omega (arith, c.loop-asset.invariant.len, c.loop-asset-test.false, c.len-asset-end.ensures.count, c.loop-asset.auto.asset-end)
