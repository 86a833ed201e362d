use Rattle.sample_market.proofs.Short.{samples_are_short}
use Rattle.sample_market.proofs.laws.samples_are_short.Goals as goal

pub returns : goal.returns
returns c = samples_are_short
