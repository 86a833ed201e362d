use Rattle.std.proofs.Common.{◌≡◌, ◌+◌, ◌*◌, ◌++◌, take, vec_len, vec_capacity}
use Rattle.std.specs.List.{flat_map}
use Rattle.wire_fields.specs.Numbers.{signed}
use Rattle.market_snapshot.proofs.balances.put_totals.Given as goal

abbrev pub invariant-loop-asset : goal.invariant-loop-asset
invariant-loop-asset l = record {
  written : l.out.items ≡ (l.fn.out.items ++ signed 16 l.accounts.totals.money) ++ flat_map (signed 8) (take l.asset l.accounts.totals.units);
  len : vec_len l.out ≡ vec_len l.fn.out + 16 + 8 * l.asset;
  capacity : vec_capacity l.out ≡ vec_capacity l.fn.out;
}
