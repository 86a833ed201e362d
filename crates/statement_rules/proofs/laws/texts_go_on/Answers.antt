use Rattle.statement_rules.proofs.Texts.{texts_go_on}
use Rattle.statement_rules.proofs.laws.texts_go_on.Goals as goal

pub returns : goal.returns
returns c = texts_go_on
