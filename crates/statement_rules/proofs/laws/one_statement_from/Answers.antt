use Rattle.statement_rules.proofs.FromMarkets.{one_statement_from}
use Rattle.statement_rules.proofs.laws.one_statement_from.Goals as goal

pub returns : goal.returns
returns c = one_statement_from
