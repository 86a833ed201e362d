use Rattle.statement_rules.proofs.FromMarkets.{journals_carry_nothing}
use Rattle.statement_rules.proofs.laws.journals_carry_nothing.Goals as goal

pub returns : goal.returns
returns c = journals_carry_nothing
