use Rattle.statement_rules.proofs.ViewLaws.{statements_end_with_balances}
use Rattle.statement_rules.proofs.laws.statements_end_with_balances.Goals as goal

pub returns : goal.returns
returns c = statements_end_with_balances
