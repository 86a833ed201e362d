use Rattle.std.proofs.Common.{List, ℕ, refl, sym, subst}
use Rattle.flow_io.specs.Changes.{change}
use Rattle.sample_summary.specs.Summary.{Summarizes}
use Rattle.flow_exchange.proofs.SampleForm.{does_write, does_not_write, does_not_fit}
use Rattle.flow_exchange.proofs.sample.sample.Goals as goal

pub returns-in-Ok-write-clause-does : goal.returns-in-Ok-write-clause-does
returns-in-Ok-write-clause-does g c = λ limit rest faults.
    let line = subst (λ (xs : List ℕ). Summarizes c.args.number c.args.orders xs) (sym c.deref.ensures.value) c.in-Ok.ensures in
    let out = change g.K.Sink.held g.K.Sink.faults c.args.out.now c.write.new.self in
    does_write c.args.number c.args.orders limit c.deref.result.now rest faults out line c.in-Ok-write.ensures.written (c.in-Ok-write.ensures.cause.quiet (λ e. absurd cc))

pub returns-in-Ok-clause-does : goal.returns-in-Ok-clause-does
returns-in-Ok-clause-does g c = λ limit rest faults.
    let line = subst (λ (xs : List ℕ). Summarizes c.args.number c.args.orders xs) (sym c.deref.ensures.value) c.in-Ok.ensures in
    let out = change g.K.Sink.held g.K.Sink.faults c.args.out.now c.write.new.self in
    let cause = c.in-Err-write.ensures.cause in
    does_not_write c.args.number c.args.orders limit c.deref.result.now rest faults out line c.in-Err-write.ensures.cut (record { later = cause.later; rose = λ _. cause.rose refl; quiet = λ not. absurd (not tt) })

pub returns-clause-does : goal.returns-clause-does
returns-clause-does g c = λ limit rest faults. does_not_fit c.args.number c.args.orders limit rest (g.K.Sink.held c.args.out.now) faults (g.K.Sink.faults c.args.out.now)
