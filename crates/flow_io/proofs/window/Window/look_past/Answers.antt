use Rattle.std.proofs.Common.{inl, inr, arith}
use Rattle.flow_io.proofs.Filling.{looked}
use Rattle.flow_io.proofs.window.Window.look_past.Goals as goal
use Rattle.flow_io.proofs.window.Window.look_past.Goals.{then-count-eq0, else-count-eq0}

pub returns-clause-fills : goal.returns-clause-fills
returns-clause-fills g c =
    let read = c.in_ok-count.ensures in
    looked c.args.self.now _ c.if-count-eq0.self c.read.new.into c.in_ok-count.count (g.S.Source.rest c.args.source.now) (g.S.Source.rest c.read.new.self) c.self.view_is c.requires.open read.taken read.bound (omega (arith, read.bound)) (
    elim c.if-count-eq0.branch [
      | then-count-eq0 w ↦ inl (w.if-count-eq0.true, w.self-is)
      | else-count-eq0 w ↦ inr (w.if-count-eq0.false, w.self-is)
    ]
    )
