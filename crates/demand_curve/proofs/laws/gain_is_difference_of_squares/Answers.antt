use Rattle.demand_curve.proofs.GainLaws.{gain_is_difference_of_squares}
use Rattle.demand_curve.proofs.laws.gain_is_difference_of_squares.Goals as goal

pub returns : goal.returns
returns c = gain_is_difference_of_squares
