use Rattle.flow_io.proofs.Writing.{HasWritten-more, HasWritten-last}
use Rattle.flow_io.proofs.standard.write_whole.Goals as goal

pub loop-rest-preserved : goal.loop-rest-preserved
loop-rest-preserved g c = HasWritten-more _ _ _ _ _ c.in-Ok.count c.loop-rest.invariant c.in-Ok.ensures.bytes

pub returns-in-Ok-eq0-clause-prefix : goal.returns-in-Ok-eq0-clause-prefix
returns-in-Ok-eq0-clause-prefix g c = HasWritten-last _ _ _ _ _ c.write.result c.loop-rest.invariant c.write.ensures.bytes

pub returns-in-Ok-eq0-2-clause-prefix : goal.returns-in-Ok-eq0-2-clause-prefix
returns-in-Ok-eq0-2-clause-prefix g c = HasWritten-last _ _ _ _ _ c.write.result c.loop-rest.invariant c.write.ensures.bytes
