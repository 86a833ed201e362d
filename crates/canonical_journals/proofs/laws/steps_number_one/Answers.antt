use Rattle.canonical_journals.proofs.LawProofs.{steps_number_one}
use Rattle.canonical_journals.proofs.laws.steps_number_one.Goals as goal

pub returns : goal.returns
returns c = steps_number_one
