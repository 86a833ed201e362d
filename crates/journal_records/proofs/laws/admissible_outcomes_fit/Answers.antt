use Rattle.journal_records.proofs.OutcomesFit.{admissible_outcomes_fit}
use Rattle.journal_records.proofs.laws.admissible_outcomes_fit.Goals as goal

pub returns : goal.returns
returns c = admissible_outcomes_fit
