use Rattle.canonical_rule.proofs.CanonicalLaws.{chosen_rates_are_no_worse}
use Rattle.canonical_rule.proofs.laws.chosen_rates_are_no_worse.Goals as goal

pub returns : goal.returns
returns c = chosen_rates_are_no_worse
