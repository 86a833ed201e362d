use Rattle.statement_rules.proofs.ViewLaws.{equal_views_equal_statements}
use Rattle.statement_rules.proofs.laws.equal_views_equal_statements.Goals as goal

pub returns : goal.returns
returns c = equal_views_equal_statements
