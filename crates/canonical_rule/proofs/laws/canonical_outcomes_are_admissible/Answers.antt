use Rattle.canonical_rule.proofs.CanonicalLaws.{canonical_outcomes_are_admissible}
use Rattle.canonical_rule.proofs.laws.canonical_outcomes_are_admissible.Goals as goal

pub returns : goal.returns
returns c = canonical_outcomes_are_admissible
