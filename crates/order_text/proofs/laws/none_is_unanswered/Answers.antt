use Rattle.order_text.proofs.OneAnswers.{none_is_unanswered}
use Rattle.order_text.proofs.laws.none_is_unanswered.Goals as goal

pub returns : goal.returns
returns c = none_is_unanswered
