use Rattle.flow_laws.proofs.StatementsAreOne.{one_view_one_statement}
use Rattle.flow_laws.proofs.one_view_one_statement.Goals as goal

pub returns : goal.returns
returns c = one_view_one_statement
