use Rattle.batch_audit.proofs.LawProofs.{one_judgement}
use Rattle.batch_audit.proofs.laws.one_judgement.Goals as goal

pub returns : goal.returns
returns c = one_judgement
