use Rattle.flow_laws.proofs.CheckpointLaws.{checkpoints_of_histories}
use Rattle.flow_laws.proofs.checkpoints_of_histories.Goals as goal

pub returns : goal.returns
returns c = checkpoints_of_histories
