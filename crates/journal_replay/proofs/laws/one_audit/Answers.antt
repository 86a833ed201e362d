use Rattle.journal_replay.proofs.LawProofs.{one_audit}
use Rattle.journal_replay.proofs.laws.one_audit.Goals as goal

pub returns : goal.returns
returns c = one_audit
