use Rattle.statement_rules.proofs.FromMarkets.{statements_join}
use Rattle.statement_rules.proofs.laws.statements_join.Goals as goal

pub returns : goal.returns
returns c = statements_join
