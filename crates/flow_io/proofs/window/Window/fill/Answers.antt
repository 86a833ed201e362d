use Rattle.std.proofs.Common.{length, ap, sym, ◌∙◌, arith}
use Rattle.flow_io.specs.Windows.{WindowState}
use Rattle.flow_io.proofs.Filling.{filled_nothing, filled_more, falls}
use Rattle.flow_io.proofs.window.Window.fill.Goals as goal

pub loop-self-init : goal.loop-self-init
loop-self-init g c = filled_nothing g.S.Source.rest g.S.Source.faults c.args.want c.args.self.now c.args.source.now c.requires.same

pub loop-self-smaller : goal.loop-self-smaller
loop-self-smaller g c =
    let a = c.loop-self.self in
    let read = c.in_ok-read_more-in-None.ensures in
    let none = ap (λ (w : WindowState). w.over) (sym c.self.view_is) ∙ c.in-None.is in
    let held = ap (λ (w : WindowState). length w.held) (sym c.self.view_is) ∙ sym c.len.ensures.length in
    let room = ap (λ (w : WindowState). w.room) c.loop-self.invariant.fills.holds in
    falls a c.read_more.new.self (g.S.Source.rest c.loop-self.source) (g.S.Source.rest c.read_more.new.source) c.args.want none read.fills read.further (omega (arith, held, c.loop-self-test.true)) (omega (arith, room, c.requires.room))

pub loop-self-preserved : goal.loop-self-preserved
loop-self-preserved g c =
    let read = c.in_ok-read_more-in-None.ensures in
    let none = ap (λ (w : WindowState). w.over) (sym c.self.view_is) ∙ c.in-None.is in
    let held = ap (λ (w : WindowState). length w.held) (sym c.self.view_is) ∙ sym c.len.ensures.length in
    filled_more g.S.Source.rest g.S.Source.faults c.args.want c.args.self.now c.loop-self.self c.read_more.new.self c.args.source.now c.loop-self.source c.read_more.new.source c.loop-self.invariant none read.fills read.ended (read.cause.quiet (λ e. absurd cc)) read.still (omega (arith, held, c.loop-self-test.true))
