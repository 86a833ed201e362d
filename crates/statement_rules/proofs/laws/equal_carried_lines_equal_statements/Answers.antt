use Rattle.statement_rules.proofs.CarriedTexts.{equal_carried_lines_equal_statements}
use Rattle.statement_rules.proofs.laws.equal_carried_lines_equal_statements.Goals as goal

pub returns : goal.returns
returns c = equal_carried_lines_equal_statements
