use Rattle.canonical_journals.proofs.OwnPromises.{canonical_journal_clears_near}
use Rattle.canonical_journals.proofs.laws.canonical_journals_clear_near.Goals as goal

pub returns : goal.returns
returns c = canonical_journal_clears_near
