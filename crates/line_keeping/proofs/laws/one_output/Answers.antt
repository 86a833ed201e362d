use Rattle.line_keeping.proofs.OneOutput.{one_output}
use Rattle.line_keeping.proofs.laws.one_output.Goals as goal

pub returns : goal.returns
returns c = one_output
