use Rattle.market_rules.proofs.LawProofs.{large_budgets_clear}
use Rattle.market_rules.proofs.laws.large_budgets_clear.Goals as goal

pub returns : goal.returns
returns c = large_budgets_clear
