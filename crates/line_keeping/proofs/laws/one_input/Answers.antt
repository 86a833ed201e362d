use Rattle.line_keeping.proofs.OneInput.{one_input}
use Rattle.line_keeping.proofs.laws.one_input.Goals as goal

pub returns : goal.returns
returns c = one_input
