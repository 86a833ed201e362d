use Rattle.order_text.proofs.OneAnswers.{one_saying}
use Rattle.order_text.proofs.laws.one_saying.Goals as goal

pub returns : goal.returns
returns c = one_saying
