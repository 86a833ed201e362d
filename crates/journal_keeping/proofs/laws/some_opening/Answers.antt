use Rattle.journal_keeping.proofs.SomeOpening.{some_opening}
use Rattle.journal_keeping.proofs.laws.some_opening.Goals as goal

pub returns : goal.returns
returns c = some_opening
