use Rattle.canonical_rule.proofs.CanonicalLaws.{one_walk_of_each_length}
use Rattle.canonical_rule.proofs.laws.one_walk_of_each_length.Goals as goal

pub returns : goal.returns
returns c = one_walk_of_each_length
