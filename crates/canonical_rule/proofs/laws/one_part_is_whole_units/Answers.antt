use Rattle.canonical_rule.proofs.OnePart.{one_part_is_whole_units}
use Rattle.canonical_rule.proofs.laws.one_part_is_whole_units.Goals as goal

pub returns : goal.returns
returns c = one_part_is_whole_units
