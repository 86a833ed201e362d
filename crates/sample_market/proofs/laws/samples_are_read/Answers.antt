use Rattle.sample_market.proofs.LawProofs.{samples_are_read}
use Rattle.sample_market.proofs.laws.samples_are_read.Goals as goal

pub returns : goal.returns
returns c = samples_are_read
