use Rattle.market_rules.proofs.LawProofs.{orders_may_leave}
use Rattle.market_rules.proofs.laws.orders_may_leave.Goals as goal

pub returns : goal.returns
returns c = orders_may_leave
