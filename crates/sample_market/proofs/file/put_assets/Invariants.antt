use Rattle.std.proofs.Common.{◌≡◌, ◌++◌, map}
use Rattle.std.specs.List.{range_with_len}
use Rattle.sample_market.specs.Files.{new_asset, encode_commands}
use Rattle.sample_market.proofs.file.put_assets.Given as goal

abbrev pub invariant-loop-asset : goal.invariant-loop-asset
invariant-loop-asset l = l.file.items ≡ l.fn.file.items ++ encode_commands (map new_asset (range_with_len 0 l.asset))
