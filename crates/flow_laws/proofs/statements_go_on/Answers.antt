use Rattle.flow_laws.proofs.StatementsAreOne.{statements_go_on}
use Rattle.flow_laws.proofs.statements_go_on.Goals as goal

pub returns : goal.returns
returns c = statements_go_on
