use Rattle.std.proofs.Common.{◌≡◌, ◌++◌, ◌-◌, ◌≤◌}
use Rattle.std.specs.List.{flat_map, range_with_len}
use Rattle.sample_market.specs.Files.{deposits_of, encode_commands}
use Rattle.sample_market.proofs.file.put_deposits.Given as goal

abbrev pub invariant-loop-account : goal.invariant-loop-account
invariant-loop-account l = record {
  some : 1 ≤ l.account;
  written : l.file.items ≡ l.fn.file.items ++ encode_commands (flat_map deposits_of (range_with_len 1 (l.account - 1)));
}
