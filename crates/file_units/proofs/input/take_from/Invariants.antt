use Rattle.std.proofs.Common.{◌-◌, ◌+◌, length}
use Rattle.file_units.proofs.Gone.{HasGone}
use Rattle.file_units.proofs.input.take_from.Given as goal

abbrev pub invariant-units : goal.invariant-units
invariant-units g l =
    HasGone g.T.TakesUnits.format g.T.TakesUnits.steps g.S.Source.rest g.S.Source.faults (g.T.TakesUnits.is_ready l.taker) l.fn.window l.window l.fn.source l.source (g.T.TakesUnits.state l.fn.taker) (g.T.TakesUnits.state l.taker) l.fn.out l.out

-- the bytes that may still be given up, and those that may still be read
abbrev pub decreases-units : goal.decreases-units
decreases-units g l = (l.window.limit - l.window.place) + (l.window.limit - (l.window.place + length l.window.held))
