use Rattle.canonical_journals.proofs.LawProofs.{plain_commands_need_no_rule}
use Rattle.canonical_journals.proofs.laws.plain_commands_need_no_rule.Goals as goal

pub returns : goal.returns
returns c = plain_commands_need_no_rule
