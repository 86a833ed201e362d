use Rattle.residual_account.proofs.Standing.{none_used}
use Rattle.market_core.proofs.prices.no_prices.Goals as goal

pub returns : goal.returns
returns c = none_used
