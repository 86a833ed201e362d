use Rattle.flow_laws.proofs.AuditLaws.{done_is_for_histories}
use Rattle.flow_laws.proofs.done_is_for_histories.Goals as goal

pub returns : goal.returns
returns c = done_is_for_histories
