use Rattle.std.proofs.Common.{rules}
use Rattle.flow_io.proofs.whole.read_up_to.Goals as goal

pub returns-clause-full : goal.returns-clause-full
returns-clause-full g c = search rules
