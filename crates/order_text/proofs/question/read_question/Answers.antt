use Rattle.serde_json.specs.View.{view}
use Rattle.order_text.proofs.Questions.{no_question}
use Rattle.order_text.proofs.question.read_question.Goals as goal

pub returns : goal.returns
returns c = no_question c.args.text.now (view c.in_ok-value.value) c.in_ok-value.ensures.value.1 c.in-None.ensures.none
