use Rattle.std.proofs.Common.{◌∙◌, ◌++◌, w64, pos, ap, arith}
use Rattle.std.specs.List.{zip}
use Rattle.std.proofs.lemmas.Int.{to_z-of_z}
use Rattle.wire_fields.specs.Numbers.{signed, unsigned}
use Rattle.flow_accounts.specs.Balances.{account_of, credit_of}
use Rattle.market_snapshot.specs.Encodings.{units_encoding}
use Rattle.market_snapshot.proofs.Written.{value_of, one_more, all_written, units_count, units_at, units_written}
use Rattle.market_snapshot.proofs.balances.put_units.Goals as goal

pub loop-asset-preserved : goal.loop-asset-preserved
loop-asset-preserved c =
    let b = c.args.accounts.now in
    let k = c.loop-asset.asset in
    let lawful = c.assets-asset-end.ensures.lawful in
    let pairs = zip (account_of b c.args.account).units (credit_of b c.args.account).units in
    let count = units_count b lawful c.args.account c.requires.account in
    let inside = c.loop-asset-test.true in
    let units = value_of _ _ _ _ c.units.ensures c.unwrap.ensures in
    let credit = value_of _ _ _ _ c.unit_credit.ensures c.unwrap-in-loop-asset.ensures in
    let put = c.put_u64.ensures.written
    ∙ ap (λ z. z ++ unsigned 8 c.unwrap-in-loop-asset.result) (c.put_i64.ensures.written ∙ ap (λ z. c.loop-asset.out.items ++ signed 8 z) (to_z-of_z w64 c.unwrap.result (record { sfits = c.unwrap.type_inv })))
    ∙ units_written c.loop-asset.out.items c.unwrap.result c.unwrap-in-loop-asset.result in
    record {
      written = one_more units_encoding pairs k (pos 0, 0) (c.unwrap.result, c.unwrap-in-loop-asset.result) c.args.out.now.items c.loop-asset.out.items c.put_u64.new.out.items (omega (arith, count, inside, c.assets-asset-end.ensures.count))
          (units_at b lawful c.args.account c.requires.account k c.unwrap.result c.unwrap-in-loop-asset.result (omega (arith, inside, c.assets-asset-end.ensures.count)) units credit) c.loop-asset.invariant.written put;
      len = omega (arith, c.loop-asset.invariant.len, c.put_i64.ensures.len, c.put_u64.ensures.len);
      capacity = c.put_u64.ensures.capacity ∙ c.put_i64.ensures.capacity ∙ c.loop-asset.invariant.capacity;
    }

pub returns-clause-written : goal.returns-clause-written
returns-clause-written c =
    let b = c.args.accounts.now in
    let pairs = zip (account_of b c.args.account).units (credit_of b c.args.account).units in
    let count = units_count b c.assets-asset-end.ensures.lawful c.args.account c.requires.account in
    all_written units_encoding pairs c.loop-asset.asset c.args.out.now.items c.loop-asset.out.items (omega (arith, count, c.loop-asset-test.false, c.assets-asset-end.ensures.count)) c.loop-asset.invariant.written
