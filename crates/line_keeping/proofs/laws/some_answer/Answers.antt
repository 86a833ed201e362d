use Rattle.line_keeping.proofs.SomeAnswer.{some_answer}
use Rattle.line_keeping.proofs.laws.some_answer.Goals as goal

pub returns : goal.returns
returns c = some_answer
