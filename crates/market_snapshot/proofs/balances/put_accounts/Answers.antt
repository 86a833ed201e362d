use Rattle.std.proofs.Common.{◌+◌, ◌∙◌, ◌++◌, ap, arith}
use Rattle.std.specs.List.{zip}
use Rattle.std.proofs.Math.Nat as nat
use Rattle.wire_fields.specs.Numbers.{unsigned}
use Rattle.flow_accounts.specs.Balances.{account_of, credit_of, account_count, asset_count, empty_account, no_credit}
use Rattle.market_snapshot.specs.Layout.{account_size}
use Rattle.market_snapshot.specs.Encodings.{account_encoding}
use Rattle.market_snapshot.proofs.Written.{none_written, one_more, all_written, accounts_at, accounts_count, accounts_written}
use Rattle.market_snapshot.proofs.balances.put_accounts.Goals as goal

pub loop-place-init : goal.loop-place-init
loop-place-init c = record {
  written = c.put_u32.ensures.written ∙ ap (λ n. c.args.out.now.items ++ unsigned 4 n) c.count.ensures.count ∙ none_written account_encoding (zip c.args.accounts.now.accounts c.args.accounts.now.credits) (c.args.out.now.items ++ unsigned 4 (account_count c.args.accounts.now));
  len = omega (arith, c.put_u32.ensures.len);
  capacity = c.put_u32.ensures.capacity;
}

pub loop-place-preserved : goal.loop-place-preserved
loop-place-preserved c =
    let b = c.args.accounts.now in
    let k = c.loop-place.place in
    let lawful = c.count.ensures.lawful in
    let inside = c.loop-place-test.true in
    let end = c.count-place-end.ensures.count in
    record {
      written = one_more account_encoding (zip b.accounts b.credits) k (empty_account 0, no_credit 0) (account_of b (k + 1), credit_of b (k + 1)) (c.args.out.now.items ++ unsigned 4 (account_count b)) c.loop-place.out.items c.put_account.new.out.items
          (omega (arith, inside, end, accounts_count b lawful)) (accounts_at b k lawful (omega (arith, inside, end))) c.loop-place.invariant.written c.put_account.ensures.written;
      len = omega (arith, c.loop-place.invariant.len, c.put_account.ensures.len, nat.mul-suc (account_size (asset_count b)) k);
      capacity = c.put_account.ensures.capacity ∙ c.loop-place.invariant.capacity;
    }

pub returns-clause-written : goal.returns-clause-written
returns-clause-written c =
    let b = c.args.accounts.now in
    accounts_written c.args.out.now.items c.loop-place.out.items b
    (all_written account_encoding (zip b.accounts b.credits) c.loop-place.place (c.args.out.now.items ++ unsigned 4 (account_count b)) c.loop-place.out.items
    (omega (arith, accounts_count b c.count.ensures.lawful, c.loop-place-test.false, c.count-place-end.ensures.count)) c.loop-place.invariant.written)
