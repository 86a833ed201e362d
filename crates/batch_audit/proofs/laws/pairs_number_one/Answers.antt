use Rattle.batch_audit.proofs.LawProofs.{pairs_number_one}
use Rattle.batch_audit.proofs.laws.pairs_number_one.Goals as goal

pub returns : goal.returns
returns c = pairs_number_one
