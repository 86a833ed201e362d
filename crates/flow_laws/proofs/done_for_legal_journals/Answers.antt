use Rattle.flow_laws.proofs.AuditLaws.{done_for_legal}
use Rattle.flow_laws.proofs.done_for_legal_journals.Goals as goal

pub returns : goal.returns
returns c = done_for_legal
