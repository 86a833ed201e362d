use Rattle.std.proofs.Common.{◌≡◌, ◌+◌, ◌*◌, ◌++◌, take, vec_len, vec_capacity}
use Rattle.std.specs.List.{flat_map, zip}
use Rattle.flow_accounts.specs.Balances.{account_of, credit_of}
use Rattle.market_snapshot.specs.Encodings.{units_encoding}
use Rattle.market_snapshot.proofs.balances.put_units.Given as goal

abbrev pub invariant-loop-asset : goal.invariant-loop-asset
invariant-loop-asset l = record {
  written : l.out.items ≡ l.fn.out.items ++ flat_map units_encoding (take l.asset (zip (account_of l.accounts l.account).units (credit_of l.accounts l.account).units));
  len : vec_len l.out ≡ vec_len l.fn.out + 16 * l.asset;
  capacity : vec_capacity l.out ≡ vec_capacity l.fn.out;
}
