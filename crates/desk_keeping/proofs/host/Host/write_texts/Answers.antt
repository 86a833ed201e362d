use Rattle.std.proofs.Common.{◌≡◌, ℕ, [], get_or, refl, sym, ap, subst, ◌∙◌, arith}
use Rattle.journal_keeping.specs.Outputs.{Gains, output}
use Rattle.desk_keeping.specs.Private.{HostState}
use Rattle.desk_keeping.proofs.Writing.{between, wrote_none, wrote_more, wrote_first}
use Rattle.desk_keeping.proofs.host.Host.write_texts.Goals as goal

pub loop-place-init : goal.loop-place-init
loop-place-init g c =
    let out = output g.K.Sink.held g.K.Sink.calls g.K.Sink.faults c.args.out.now in
    let written : c.self.inside.written ≡ c.args.self.now.written = ap (λ (h : HostState). h.written) c.self.view_is in (
      subst (λ (n : ℕ). Gains ⊥ out out (between c.args.self.now.session.talk.texts c.args.self.now.written n)) (sym written) (wrote_none out c.args.self.now.session.talk.texts c.args.self.now.written),
      omega (arith, written),
      omega (arith, written, c.requires.order.0),
      refl,
    )

pub loop-place-preserved : goal.loop-place-preserved
loop-place-preserved g c =
    let i = c.loop-place.invariant in
    let told : c.self.inside.told ≡ c.args.self.now.told = ap (λ (h : HostState). h.told) c.self.view_is in
    let text : c.text_at.result.now ≡ get_or c.args.self.now.session.talk.texts c.loop-place.place [] = c.text_at.ensures ∙ ap (λ (h : HostState). get_or h.session.talk.texts c.loop-place.place []) c.self.view_is in
    let e = c.in-Ok.ensures in (
      wrote_more (output g.K.Sink.held g.K.Sink.calls g.K.Sink.faults c.args.out.now) (output g.K.Sink.held g.K.Sink.calls g.K.Sink.faults c.loop-place.out) (output g.K.Sink.held g.K.Sink.calls g.K.Sink.faults c.write.new.self)
          c.args.self.now.session.talk.texts c.args.self.now.written c.loop-place.place c.text_at.result.now i.1 (omega (arith, told, c.loop-place-test.true, c.requires.order.1)) text i.0 e.called e.written,
      omega (arith, i.1),
      omega (arith, told, c.loop-place-test.true),
      e.cause.quiet (λ is. cc is) ∙ i.3,
    )

pub returns-in-Err-clause-broken : goal.returns-in-Err-clause-broken
returns-in-Err-clause-broken g c =
    let i = c.loop-place.invariant in
    let told : c.self.inside.told ≡ c.args.self.now.told = ap (λ (h : HostState). h.told) c.self.view_is in
    let text : c.text_at.result.now ≡ get_or c.args.self.now.session.talk.texts c.loop-place.place [] = c.text_at.ensures ∙ ap (λ (h : HostState). get_or h.session.talk.texts c.loop-place.place []) c.self.view_is in
    let e = c.in-Err.ensures in
    wrote_first c.args.self.now (output g.K.Sink.held g.K.Sink.calls g.K.Sink.faults c.args.out.now) (output g.K.Sink.held g.K.Sink.calls g.K.Sink.faults c.loop-place.out) (output g.K.Sink.held g.K.Sink.calls g.K.Sink.faults c.write.new.self)
    c.loop-place.place c.text_at.result.now i.1 (omega (arith, told, c.loop-place-test.true)) c.requires.order.1 text i.0 e.called e.cut
