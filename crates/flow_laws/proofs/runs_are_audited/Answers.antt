use Rattle.flow_laws.proofs.RunsAudited.{runs_are_audited}
use Rattle.flow_laws.proofs.runs_are_audited.Goals as goal

pub returns : goal.returns
returns c = runs_are_audited
