use Rattle.canonical_journals.proofs.LawProofs.{one_canonical_journal}
use Rattle.canonical_journals.proofs.laws.one_canonical_journal.Goals as goal

pub returns : goal.returns
returns c = one_canonical_journal
