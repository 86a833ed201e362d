use Rattle.flow_laws.proofs.SampleLaws.{samples_are_run}
use Rattle.flow_laws.proofs.samples_are_run.Goals as goal

pub returns : goal.returns
returns c = samples_are_run
