use Rattle.std.proofs.Common.{rules}
use Rattle.market_core.proofs.market.Market.read.Goals as goal

pub returns-in-Ok-clause-command : goal.returns-in-Ok-clause-command
returns-in-Ok-clause-command c = search rules
