use Rattle.even_prices.proofs.Lowering.{even_moves_lower_the_dual}
use Rattle.even_prices.proofs.laws.even_moves_lower_the_dual.Goals as goal

pub returns : goal.returns
returns c = even_moves_lower_the_dual
