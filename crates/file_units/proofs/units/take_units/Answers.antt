use Rattle.std.proofs.Common.{◌-◌, length, ap, arith}
use Rattle.std.proofs.lemmas.List.{take_rest, length-drop}
use Rattle.file_units.proofs.Taking.{one_more_taken}
use Rattle.file_units.proofs.units.take_units.Goals as goal

pub units-preserved : goal.units-preserved
units-preserved g c =
    let one = rw (c.in-Taken.is, take_rest) at c.in_ok-taken.ensures.taken in
    let ready = rw c.in-Taken.is at (c.in_ok-taken.ensures.stays (length c.args.bytes.now - c.units.place) (omega (arith, ap length (take_rest c.args.bytes.now c.units.place), length-drop c.units.place c.args.bytes.now)) c.units.invariant.ready) in
    (one_more_taken g.T.TakesUnits.format g.T.TakesUnits.steps (g.T.TakesUnits.is_ready c.units.taker) (g.T.TakesUnits.is_ready c.take.new.self) c.args.bytes.now c.args.start c.units.place c.in-Taken.taken
    (g.T.TakesUnits.state c.args.taker.now) (g.T.TakesUnits.state c.units.taker) (g.T.TakesUnits.state c.take.new.self) c.args.out.now c.units.out c.take.new.out c.units.invariant one ready).0
