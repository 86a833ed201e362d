use Rattle.market_rules.proofs.LawProofs.{plain_commands_have_one_answer}
use Rattle.market_rules.proofs.laws.plain_commands_have_one_answer.Goals as goal

pub returns : goal.returns
returns c = plain_commands_have_one_answer
