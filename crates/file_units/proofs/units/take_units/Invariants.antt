use Rattle.std.proofs.Common.{◌-◌, length}
use Rattle.file_units.proofs.Taking.{HasTaken}
use Rattle.file_units.proofs.units.take_units.Given as goal

abbrev pub invariant-units : goal.invariant-units
invariant-units g l =
    HasTaken g.T.TakesUnits.format g.T.TakesUnits.steps (g.T.TakesUnits.is_ready l.taker) l.fn.bytes l.fn.start l.place (g.T.TakesUnits.state l.fn.taker) (g.T.TakesUnits.state l.taker) l.fn.out l.out

abbrev pub decreases-units : goal.decreases-units
decreases-units g l = length l.fn.bytes - l.place
