use Rattle.std.proofs.Common.{◌≡◌, Bool, true, false, Some, Option, List, ℕ, length, ap, subst, arith}
use Rattle.flow_io.specs.Windows.{WindowState}
use Rattle.line_keeping.specs.Private.{ShowsStart, ShowsNone}
use Rattle.line_keeping.proofs.InputStart.{bare_after, unread_start, other_start}
use Rattle.line_keeping.proofs.opening.LinesInput.open_as.Goals as goal

-- what was seen of the input, through a window that was empty
seen : (old : WindowState) (empty : WindowState) (new : WindowState) (rest after : Option (List ℕ)) (found known : Bool) → old ≡ empty → found ≡ known → ShowsStart old new rest after found → ShowsStart empty new rest after known
seen old empty new rest after found known is same shows = subst (λ (w : WindowState). ShowsStart w new rest after known) is (subst (λ (b : Bool). ShowsStart old new rest after b) same shows)

pub returns-in-Ok-false-clause-opens : goal.returns-in-Ok-false-clause-opens
returns-in-Ok-false-clause-opens g c =
    let shows = (seen c.in-Ok.lines.window _ c.has_checkpoint.new.window (g.S.Source.rest c.args.source.now) (g.S.Source.rest c.has_checkpoint.new.source) _ false c.in-Ok.ensures.window (cc c.in-Ok-false.field-0-test) c.in-Ok-false.ensures.shows) in
    bare_after c.args.limit c.has_checkpoint.new.window (g.S.Source.rest c.args.source.now) (g.S.Source.rest c.has_checkpoint.new.source) shows c.args.version
    (omega (arith, c.held-held.ensures.few, ap (λ (l : List ℕ). length l) c.held-held.ensures.held, shows.is_open.room))

pub returns-in-Ok-true-clause-fails : goal.returns-in-Ok-true-clause-fails
returns-in-Ok-true-clause-fails g c = other_start c.args.version c.args.limit c.has_checkpoint.new.window (g.S.Source.rest c.args.source.now) (g.S.Source.rest c.has_checkpoint.new.source) (seen c.in-Ok.lines.window _ c.has_checkpoint.new.window (g.S.Source.rest c.args.source.now) (g.S.Source.rest c.has_checkpoint.new.source) _ true c.in-Ok.ensures.window (cc c.in-Ok-true.field-0-test) c.in-Ok-true.ensures.shows)

pub returns-in-Err-has_checkpoint-clause-fails : goal.returns-in-Err-has_checkpoint-clause-fails
returns-in-Err-has_checkpoint-clause-fails g c =
    unread_start (Some c.args.version) c.args.limit (g.S.Source.rest c.args.source.now) (g.S.Source.rest c.has_checkpoint.new.source)
    (subst (λ (w : WindowState). ShowsNone w.limit (g.S.Source.rest c.args.source.now) (g.S.Source.rest c.has_checkpoint.new.source)) c.in-Ok.ensures.window c.in-Err-has_checkpoint.ensures.none)
