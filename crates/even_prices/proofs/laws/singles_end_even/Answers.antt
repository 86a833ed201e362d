use Rattle.even_prices.proofs.SinglesEven.{singles_end_even}
use Rattle.even_prices.proofs.laws.singles_end_even.Goals as goal

pub returns : goal.returns
returns c = singles_end_even
