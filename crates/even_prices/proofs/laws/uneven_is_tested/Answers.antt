use Rattle.even_prices.proofs.Tested.{uneven_is_tested}
use Rattle.even_prices.proofs.laws.uneven_is_tested.Goals as goal

pub returns : goal.returns
returns c = uneven_is_tested
