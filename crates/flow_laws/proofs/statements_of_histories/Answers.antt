use Rattle.flow_laws.proofs.StatementsAreOne.{statements_of_histories}
use Rattle.flow_laws.proofs.statements_of_histories.Goals as goal

pub returns : goal.returns
returns c = statements_of_histories
