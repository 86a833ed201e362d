use Rattle.order_text.proofs.OneAnswers.{one_table}
use Rattle.order_text.proofs.laws.one_table.Goals as goal

pub returns : goal.returns
returns c = one_table
