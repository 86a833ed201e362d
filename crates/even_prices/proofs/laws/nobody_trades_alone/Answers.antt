use Rattle.even_prices.proofs.Alone.{nobody_trades_alone}
use Rattle.even_prices.proofs.laws.nobody_trades_alone.Goals as goal

pub returns : goal.returns
returns c = nobody_trades_alone
