use Rattle.canonical_rule.proofs.CanonicalLaws.{canonical_walks_are_shortest}
use Rattle.canonical_rule.proofs.laws.canonical_walks_are_shortest.Goals as goal

pub returns : goal.returns
returns c = canonical_walks_are_shortest
