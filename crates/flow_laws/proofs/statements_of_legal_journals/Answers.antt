use Rattle.flow_laws.proofs.StatementsAreOne.{statements_of_legal}
use Rattle.flow_laws.proofs.statements_of_legal_journals.Goals as goal

pub returns : goal.returns
returns c = statements_of_legal
