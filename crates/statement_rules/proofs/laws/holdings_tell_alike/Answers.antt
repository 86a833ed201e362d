use Rattle.statement_rules.proofs.Alike.{holdings_tell_alike}
use Rattle.statement_rules.proofs.laws.holdings_tell_alike.Goals as goal

pub returns : goal.returns
returns c = holdings_tell_alike
