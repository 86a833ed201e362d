use Rattle.statement_rules.proofs.FromMarkets.{equal_starts_equal_statements}
use Rattle.statement_rules.proofs.laws.equal_starts_equal_statements.Goals as goal

pub returns : goal.returns
returns c = equal_starts_equal_statements
