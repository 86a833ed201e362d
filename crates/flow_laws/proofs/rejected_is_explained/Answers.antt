use Rattle.flow_laws.proofs.ExplainLaws.{rejected_is_explained}
use Rattle.flow_laws.proofs.rejected_is_explained.Goals as goal

pub returns : goal.returns
returns c = rejected_is_explained
