use Rattle.std.proofs.Common.{◌≡◌, ◌++◌, replicate}
use Rattle.wire_records.specs.Commands.{RunBatch}
use Rattle.sample_market.specs.Files.{encode_commands}
use Rattle.sample_market.proofs.file.put_batches.Given as goal

abbrev pub invariant-loop : goal.invariant-loop
invariant-loop l = l.file.items ≡ l.fn.file.items ++ encode_commands (replicate l.counter (RunBatch 1000))
