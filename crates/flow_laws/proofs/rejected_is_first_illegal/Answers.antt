use Rattle.flow_laws.proofs.AuditLaws.{rejected_is_first}
use Rattle.flow_laws.proofs.rejected_is_first_illegal.Goals as goal

pub returns : goal.returns
returns c = rejected_is_first
