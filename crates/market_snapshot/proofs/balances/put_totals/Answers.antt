use Rattle.std.proofs.Common.{◌∙◌, ◌++◌, w64, pos, FitsSigned, ap, sym, arith, rules}
use Rattle.std.specs.Int.{w128}
use Rattle.std.proofs.lemmas.Int.{to_z-of_z}
use Rattle.wire_fields.specs.Numbers.{signed}
use Rattle.market_snapshot.proofs.Written.{value_of, none_written, one_more, all_written, totals_written}
use Rattle.market_snapshot.proofs.balances.put_totals.Goals as goal

pub loop-asset-init : goal.loop-asset-init
loop-asset-init c =
    let fits : FitsSigned w128 c.total_money.result = search rules in
    record {
      written = c.put_i128.ensures.written ∙ ap (λ z. c.args.out.now.items ++ signed 16 z) (to_z-of_z w128 c.total_money.result fits ∙ c.total_money.ensures.total)
          ∙ none_written (signed 8) c.args.accounts.now.totals.units (c.args.out.now.items ++ signed 16 c.args.accounts.now.totals.money);
      len = omega (arith, c.put_i128.ensures.len);
      capacity = c.put_i128.ensures.capacity;
    }

pub loop-asset-preserved : goal.loop-asset-preserved
loop-asset-preserved c =
    let b = c.args.accounts.now in
    let k = c.loop-asset.asset in
    let inside = c.loop-asset-test.true in
    let units = value_of _ _ _ _ c.total_units.ensures c.unwrap.ensures in
    let put = c.put_i64.ensures.written ∙ ap (λ z. c.loop-asset.out.items ++ signed 8 z) (to_z-of_z w64 c.unwrap.result (record { sfits = c.unwrap.type_inv })) in
    record {
      written = one_more (signed 8) b.totals.units k (pos 0) c.unwrap.result (c.args.out.now.items ++ signed 16 b.totals.money) c.loop-asset.out.items c.put_i64.new.out.items (omega (arith, inside, c.assets-asset-end.ensures.count)) (sym units) c.loop-asset.invariant.written put;
      len = omega (arith, c.loop-asset.invariant.len, c.put_i64.ensures.len);
      capacity = c.put_i64.ensures.capacity ∙ c.loop-asset.invariant.capacity;
    }

pub returns-clause-written : goal.returns-clause-written
returns-clause-written c =
    let b = c.args.accounts.now in
    totals_written c.args.out.now.items c.loop-asset.out.items b
    (all_written (signed 8) b.totals.units c.loop-asset.asset (c.args.out.now.items ++ signed 16 b.totals.money) c.loop-asset.out.items (omega (arith, c.loop-asset-test.false, c.assets-asset-end.ensures.count)) c.loop-asset.invariant.written)
