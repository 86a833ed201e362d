use Rattle.journal_keeping.proofs.Legal.{prefixes_are_legal}
use Rattle.journal_keeping.proofs.laws.prefixes_are_legal.Goals as goal

pub returns : goal.returns
returns c = prefixes_are_legal
