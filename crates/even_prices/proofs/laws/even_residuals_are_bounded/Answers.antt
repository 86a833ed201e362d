use Rattle.even_prices.proofs.EvenLaws.{even_residuals_are_bounded}
use Rattle.even_prices.proofs.laws.even_residuals_are_bounded.Goals as goal

pub returns : goal.returns
returns c = even_residuals_are_bounded
