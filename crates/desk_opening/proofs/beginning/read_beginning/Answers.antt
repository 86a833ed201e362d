use Rattle.std.proofs.Common.{◌≡◌, List, ℕ, Option, Some, None, sym, ap, subst, ◌∙◌}
use Rattle.flow_io.specs.declared.window.InputEnd.{InputEnd}
use Rattle.flow_io.specs.declared.window.InputEnd.TheVariants.{Limit}
use Rattle.flow_io.specs.Windows.{WindowState}
use Rattle.desk_opening.specs.Private.{IsLacking}
use Rattle.desk_opening.proofs.FirstBytes.{fails_on, ended, limited}
use Rattle.desk_opening.proofs.beginning.read_beginning.Goals as goal

pub returns-in-Ok-Enough-clause-fails : goal.returns-in-Ok-Enough-clause-fails
returns-in-Ok-Enough-clause-fails g c =
    let e = c.in-Ok-Enough.ensures in
    let over : c.fill.new.self.over ≡ None = e.open c.in-Ok-Enough.field-0-is ∙ ap (λ (w : WindowState). w.over) c.requires.new in
    fails_on c.args.window.now.room c.args.window.now.limit c.args.window.now c.fill.new.self c.requires.new (g.S.Source.rest c.args.source.now) (g.S.Source.rest c.fill.new.source) e.fills e.within c.start_at.result (g.S.Source.rest c.start_at.new.source)
    (λ limit. absurd (let bad : ◌≡◌ {A = Option InputEnd} None (Some Limit) = sym over ∙ limit in cc)) c.start_at.ensures.fails

pub returns-in-Ok-Ended-clause-fails : goal.returns-in-Ok-Ended-clause-fails
returns-in-Ok-Ended-clause-fails g c =
    let e = c.in-Ok-Ended.ensures in
    let how = e.ended.0 c.in-Ok-Ended.field-0-is in
    ended c.args.window.now.room c.args.window.now.limit c.args.window.now c.fill.new.self c.requires.new (g.S.Source.rest c.args.source.now) (g.S.Source.rest c.fill.new.source) e.fills e.within how.1 (e.all how.1) how.0 c.lacking.result
    (subst (λ (l : List ℕ). IsLacking l c.lacking.result) c.held.ensures.held c.lacking.ensures)

pub returns-in-Ok-Limited-clause-fails : goal.returns-in-Ok-Limited-clause-fails
returns-in-Ok-Limited-clause-fails g c =
    let e = c.in-Ok-Limited.ensures in
    let how = e.limited.0 c.in-Ok-Limited.field-0-is in
    limited c.args.window.now.room c.args.window.now.limit c.args.window.now c.fill.new.self c.requires.new (g.S.Source.rest c.args.source.now) (g.S.Source.rest c.fill.new.source) e.fills e.within how.1 how.0 c.lacking-in-Ok-Limited.result
    (subst (λ (l : List ℕ). IsLacking l c.lacking-in-Ok-Limited.result) c.held-in-Ok-Limited.ensures.held c.lacking-in-Ok-Limited.ensures)
