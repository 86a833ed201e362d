use Rattle.flow_laws.proofs.CheckpointLaws.{legal_journals_have_checkpoints}
use Rattle.flow_laws.proofs.legal_journals_have_checkpoints.Goals as goal

pub returns : goal.returns
returns c = legal_journals_have_checkpoints
