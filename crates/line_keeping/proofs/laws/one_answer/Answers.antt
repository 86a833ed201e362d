use Rattle.line_keeping.proofs.OneAnswer.{one_answer}
use Rattle.line_keeping.proofs.laws.one_answer.Goals as goal

pub returns : goal.returns
returns c = one_answer
