use Rattle.std.proofs.Common.{arith}
use Rattle.sample_market.proofs.Written.{batches_written}
use Rattle.sample_market.proofs.file.put_batches.Goals as goal

pub returns : goal.returns
returns c = batches_written c.args.file.now.items c.loop.file.items c.loop.counter c.loop.invariant (omega arith)
