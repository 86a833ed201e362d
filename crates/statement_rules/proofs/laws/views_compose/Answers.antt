use Rattle.statement_rules.proofs.ViewLaws.{views_compose}
use Rattle.statement_rules.proofs.laws.views_compose.Goals as goal

pub returns : goal.returns
returns c = views_compose
