use Rattle.statement_rules.proofs.ViewLaws.{one_view}
use Rattle.statement_rules.proofs.laws.one_view.Goals as goal

pub returns : goal.returns
returns c = one_view
