use Rattle.std.proofs.Common.{◌≡◌, ◌+◌, ◌*◌, ◌++◌, length, take, vec_len, vec_capacity}
use Rattle.std.specs.List.{flat_map}
use Rattle.wire_fields.specs.Numbers.{unsigned}
use Rattle.wire_records.specs.Versions.{number_of}
use Rattle.market_snapshot.specs.Checkpoints.{checkpoint_magic}
use Rattle.market_snapshot.proofs.writing.put_tickers.Given as goal

abbrev pub invariant-loop-asset : goal.invariant-loop-asset
invariant-loop-asset l = record {
  written : l.out.items ≡ (((l.fn.out.items ++ checkpoint_magic) ++ unsigned 1 (number_of l.fn.version)) ++ unsigned 2 (length l.tickers)) ++ flat_map (λ t. t) (take l.asset l.tickers);
  len : vec_len l.out ≡ vec_len l.fn.out + 11 + 8 * l.asset;
  capacity : vec_capacity l.out ≡ vec_capacity l.fn.out;
}
