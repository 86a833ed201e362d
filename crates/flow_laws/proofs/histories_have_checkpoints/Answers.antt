use Rattle.flow_laws.proofs.CheckpointLaws.{histories_have_checkpoints}
use Rattle.flow_laws.proofs.histories_have_checkpoints.Goals as goal

pub returns : goal.returns
returns c = histories_have_checkpoints
