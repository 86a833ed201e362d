use Rattle.statement_rules.proofs.OwnRates.{own_rates_are_published}
use Rattle.statement_rules.proofs.laws.own_rates_are_published.Goals as goal

pub returns : goal.returns
returns c = own_rates_are_published
