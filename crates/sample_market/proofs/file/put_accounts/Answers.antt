use Rattle.std.proofs.Common.{arith}
use Rattle.sample_market.proofs.Written.{accounts_written}
use Rattle.sample_market.proofs.file.put_accounts.Goals as goal

pub returns : goal.returns
returns c = accounts_written c.args.file.now.items c.loop.file.items c.loop.counter c.loop.invariant (omega arith)
