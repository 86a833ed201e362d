use Rattle.journal_replay.proofs.LawProofs.{audits_to_end}
use Rattle.journal_replay.proofs.laws.audits_to_end_are_of_legal_journals.Goals as goal

pub returns : goal.returns
returns c = audits_to_end
