use Rattle.market_snapshot.proofs.OneMarket.{one_market}
use Rattle.market_snapshot.proofs.laws.one_market.Goals as goal

pub returns : goal.returns
returns c = one_market
