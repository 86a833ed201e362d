use Rattle.canonical_rule.proofs.CanonicalLaws.{every_batch_has_a_canonical_outcome}
use Rattle.canonical_rule.proofs.laws.every_batch_has_a_canonical_outcome.Goals as goal

pub returns : goal.returns
returns c = every_batch_has_a_canonical_outcome
