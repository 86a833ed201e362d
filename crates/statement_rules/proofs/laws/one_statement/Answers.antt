use Rattle.statement_rules.proofs.ViewLaws.{one_statement}
use Rattle.statement_rules.proofs.laws.one_statement.Goals as goal

pub returns : goal.returns
returns c = one_statement
