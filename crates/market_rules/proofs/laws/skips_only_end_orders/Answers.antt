use Rattle.market_rules.proofs.LawProofs.{skips_only_end_orders}
use Rattle.market_rules.proofs.laws.skips_only_end_orders.Goals as goal

pub returns : goal.returns
returns c = skips_only_end_orders
