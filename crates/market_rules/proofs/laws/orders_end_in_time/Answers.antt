use Rattle.market_rules.proofs.LawProofs.{orders_end_in_time}
use Rattle.market_rules.proofs.laws.orders_end_in_time.Goals as goal

pub returns : goal.returns
returns c = orders_end_in_time
