use Rattle.even_prices.proofs.EvenLaws.{active_bounds_are_within_tolerances}
use Rattle.even_prices.proofs.laws.active_bounds_are_within_tolerances.Goals as goal

pub returns : goal.returns
returns c = active_bounds_are_within_tolerances
