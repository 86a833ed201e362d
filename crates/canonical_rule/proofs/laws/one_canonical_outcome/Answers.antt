use Rattle.canonical_rule.proofs.CanonicalLaws.{one_canonical_outcome}
use Rattle.canonical_rule.proofs.laws.one_canonical_outcome.Goals as goal

pub returns : goal.returns
returns c = one_canonical_outcome
