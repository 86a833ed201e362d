use Rattle.excess_bounds.proofs.ExcessLaws.{parts_enclose_excess}
use Rattle.excess_bounds.proofs.laws.parts_enclose_excess.Goals as goal

pub returns : goal.returns
returns c = parts_enclose_excess
