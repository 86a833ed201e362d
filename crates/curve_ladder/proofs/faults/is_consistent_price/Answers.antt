use Rattle.std.proofs.Common.{rules}
use Rattle.curve_ladder.proofs.faults.is_consistent_price.Goals as goal

pub returns-in-Some : goal.returns-in-Some
returns-in-Some c = search rules
