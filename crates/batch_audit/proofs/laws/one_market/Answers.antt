use Rattle.batch_audit.proofs.LawProofs.{one_market}
use Rattle.batch_audit.proofs.laws.one_market.Goals as goal

pub returns : goal.returns
returns c = one_market
