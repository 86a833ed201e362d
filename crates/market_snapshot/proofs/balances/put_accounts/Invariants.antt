use Rattle.std.proofs.Common.{◌≡◌, ◌+◌, ◌*◌, ◌++◌, take, vec_len, vec_capacity}
use Rattle.std.specs.List.{flat_map, zip}
use Rattle.wire_fields.specs.Numbers.{unsigned}
use Rattle.flow_accounts.specs.Balances.{asset_count, account_count}
use Rattle.market_snapshot.specs.Layout.{account_size}
use Rattle.market_snapshot.specs.Encodings.{account_encoding}
use Rattle.market_snapshot.proofs.balances.put_accounts.Given as goal

abbrev pub invariant-loop-place : goal.invariant-loop-place
invariant-loop-place l = record {
  written : l.out.items ≡ (l.fn.out.items ++ unsigned 4 (account_count l.accounts)) ++ flat_map account_encoding (take l.place (zip l.accounts.accounts l.accounts.credits));
  len : vec_len l.out ≡ vec_len l.fn.out + 4 + account_size (asset_count l.accounts) * l.place;
  capacity : vec_capacity l.out ≡ vec_capacity l.fn.out;
}
