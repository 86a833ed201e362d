use Rattle.std.proofs.Common.{◌≡◌, ◌<◌, ◌≤◌, map}
use Rattle.std.specs.Prelude.{vec_len, vec_capacity}
use Rattle.std.specs.List.{range_with_len}
use Rattle.flow_accounts.specs.Balances.{asset_count, units_of}
use Rattle.account_statement.proofs.carried.all_units.Given as goal

abbrev pub invariant-loop-asset : goal.invariant-loop-asset
invariant-loop-asset l =
    (vec_len l.units ≡ l.asset)
    × (0 < l.account → l.units.items ≡ map (units_of l.accounts l.account) (range_with_len 0 l.asset))
    × (asset_count l.accounts ≤ vec_capacity l.units)
