use Rattle.even_prices.proofs.MovedEven.{moves_make_even}
use Rattle.even_prices.proofs.laws.moves_make_even.Goals as goal

pub returns : goal.returns
returns c = moves_make_even
