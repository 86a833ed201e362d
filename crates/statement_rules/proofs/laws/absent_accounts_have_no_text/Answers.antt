use Rattle.statement_rules.proofs.Texts.{absent_accounts_have_no_text}
use Rattle.statement_rules.proofs.laws.absent_accounts_have_no_text.Goals as goal

pub returns : goal.returns
returns c = absent_accounts_have_no_text
