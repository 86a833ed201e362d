use Rattle.std.proofs.Common.{rules}
use Rattle.flow_io.proofs.standard.StdSinkSink.write.Goals as goal

pub returns-else-is_err-clause-whole : goal.returns-else-is_err-clause-whole
returns-else-is_err-clause-whole g c = search rules
