use Rattle.std.proofs.Common.{rules}
use Rattle.flow_io.proofs.standard.StdSourceSource.read.Goals as goal

pub returns-in-Ok-clause-consumed : goal.returns-in-Ok-clause-consumed
returns-in-Ok-clause-consumed g c = search rules
