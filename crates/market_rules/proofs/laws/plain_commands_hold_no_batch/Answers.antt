use Rattle.market_rules.proofs.LawProofs.{plain_commands_hold_no_batch}
use Rattle.market_rules.proofs.laws.plain_commands_hold_no_batch.Goals as goal

pub returns : goal.returns
returns c = plain_commands_hold_no_batch
