use Rattle.journal_replay.proofs.LawProofs.{markets_are}
use Rattle.journal_replay.proofs.laws.markets_are_of_legal_journals.Goals as goal

pub returns : goal.returns
returns c = markets_are
