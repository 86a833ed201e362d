use Rattle.journal_replay.proofs.LawProofs.{one_replay}
use Rattle.journal_replay.proofs.laws.one_replay.Goals as goal

pub returns : goal.returns
returns c = one_replay
