use Rattle.canonical_journals.proofs.LawProofs.{canonical_journals_are_legal}
use Rattle.canonical_journals.proofs.laws.canonical_journals_are_legal.Goals as goal

pub returns : goal.returns
returns c = canonical_journals_are_legal
