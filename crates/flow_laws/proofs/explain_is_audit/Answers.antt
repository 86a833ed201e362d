use Rattle.flow_laws.proofs.ExplainLaws.{explain_is_audit}
use Rattle.flow_laws.proofs.explain_is_audit.Goals as goal

pub returns : goal.returns
returns c = explain_is_audit
