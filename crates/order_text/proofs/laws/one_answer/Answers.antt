use Rattle.order_text.proofs.OneAnswers.{one_answer, one_saying}
use Rattle.order_text.proofs.laws.one_answer.Goals as goal

pub returns : goal.returns
returns c = one_answer one_saying
