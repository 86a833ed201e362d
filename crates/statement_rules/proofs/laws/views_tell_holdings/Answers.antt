use Rattle.statement_rules.proofs.ViewLaws.{views_tell_holdings}
use Rattle.statement_rules.proofs.laws.views_tell_holdings.Goals as goal

pub returns : goal.returns
returns c = views_tell_holdings
