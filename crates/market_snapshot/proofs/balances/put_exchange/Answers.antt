use Rattle.std.proofs.Common.{◌∙◌, ◌++◌, w64, pos, FitsSigned, ap, sym, arith, rules}
use Rattle.std.specs.Int.{w128}
use Rattle.std.proofs.lemmas.Int.{to_z-of_z}
use Rattle.wire_fields.specs.Numbers.{signed}
use Rattle.market_snapshot.proofs.Written.{none_written, one_more, all_written, exchange_written}
use Rattle.market_snapshot.proofs.balances.put_exchange.Goals as goal

pub loop-asset-init : goal.loop-asset-init
loop-asset-init c =
    let fits : FitsSigned w128 c.money.result = search rules in
    record {
      written = c.put_i128.ensures.written ∙ ap (λ z. c.args.out.now.items ++ signed 16 z) (to_z-of_z w128 c.money.result fits ∙ c.money.ensures)
          ∙ none_written (signed 8) c.args.exchange.now.units (c.args.out.now.items ++ signed 16 c.args.exchange.now.money);
      len = omega (arith, c.put_i128.ensures.len);
      capacity = c.put_i128.ensures.capacity;
    }

pub loop-asset-preserved : goal.loop-asset-preserved
loop-asset-preserved c =
    let a = c.args.exchange.now in
    let k = c.loop-asset.asset in
    let inside = c.loop-asset-test.true in
    let fits : FitsSigned w64 c.units.result = search rules in
    let put = c.put_i64.ensures.written ∙ ap (λ z. c.loop-asset.out.items ++ signed 8 z) (to_z-of_z w64 c.units.result fits) in
    record {
      written = one_more (signed 8) a.units k (pos 0) c.units.result (c.args.out.now.items ++ signed 16 a.money) c.loop-asset.out.items c.put_i64.new.out.items (omega (arith, inside, c.assets-asset-end.ensures.count)) (sym c.units.ensures) c.loop-asset.invariant.written put;
      len = omega (arith, c.loop-asset.invariant.len, c.put_i64.ensures.len);
      capacity = c.put_i64.ensures.capacity ∙ c.loop-asset.invariant.capacity;
    }

pub returns-clause-written : goal.returns-clause-written
returns-clause-written c =
    let a = c.args.exchange.now in
    exchange_written c.args.out.now.items c.loop-asset.out.items a
    (all_written (signed 8) a.units c.loop-asset.asset (c.args.out.now.items ++ signed 16 a.money) c.loop-asset.out.items (omega (arith, c.loop-asset-test.false, c.assets-asset-end.ensures.count)) c.loop-asset.invariant.written)
