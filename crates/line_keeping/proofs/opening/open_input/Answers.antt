use Rattle.std.proofs.Common.{◌≡◌, Bool, true, false, None, length, ap, subst, Option, List, [], ◌∷◌, ◌++◌, ℕ, arith}
use Rattle.flow_io.specs.Windows.{WindowState}
use Rattle.market_history.specs.Kept.{FindsNone}
use Rattle.market_history.specs.declared.start.StartFault.{StartFault}
use Rattle.journal_disk.specs.Entries.{framed}
use Rattle.journal_keeping.proofs.ShortCheckpoints.{checkpoint_short}
use Rattle.line_keeping.specs.Private.{ShowsStart, ShowsNone}
use Rattle.line_keeping.proofs.InputStart.{takes_bare, unread_start, unread_checkpoint, out_checkpoint, bad_checkpoint, checkpoint_open, takes_checkpoint, out_stored}
use Rattle.line_keeping.proofs.opening.open_input.Goals as goal

-- what was seen of the input, through a window that was empty
seen : (old : WindowState) (empty : WindowState) (new : WindowState) (rest after : Option (List ℕ)) (found known : Bool) → old ≡ empty → found ≡ known → ShowsStart old new rest after found → ShowsStart empty new rest after known
seen old empty new rest after found known is same shows = subst (λ (w : WindowState). ShowsStart w new rest after known) is (subst (λ (b : Bool). ShowsStart old new rest after b) same shows)

pub returns-in-Ok-false-clause-opens : goal.returns-in-Ok-false-clause-opens
returns-in-Ok-false-clause-opens g c =
    takes_bare c.args.limit c.has_checkpoint.new.window (g.S.Source.rest c.args.source.now) (g.S.Source.rest c.has_checkpoint.new.source)
    (seen c.args.window.now _ c.has_checkpoint.new.window (g.S.Source.rest c.args.source.now) (g.S.Source.rest c.has_checkpoint.new.source) _ false c.requires.window (cc c.in-Ok-false.field-0-test) c.in-Ok-false.ensures.shows)
    c.new_in.result c.new.result.items c.new_in.ensures c.new.ensures.items

pub returns-in-Err-clause-fails : goal.returns-in-Err-clause-fails
returns-in-Err-clause-fails g c =
    unread_start None c.args.limit (g.S.Source.rest c.args.source.now) (g.S.Source.rest c.has_checkpoint.new.source)
    (subst (λ (w : WindowState). ShowsNone w.limit (g.S.Source.rest c.args.source.now) (g.S.Source.rest c.has_checkpoint.new.source)) c.requires.window c.in-Err.ensures.none)

pub returns-in-Err-Read-clause-fails : goal.returns-in-Err-Read-clause-fails
returns-in-Err-Read-clause-fails g c =
    unread_checkpoint c.args.limit c.has_checkpoint.new.window (g.S.Source.rest c.args.source.now) (g.S.Source.rest c.has_checkpoint.new.source)
    (seen c.args.window.now _ c.has_checkpoint.new.window (g.S.Source.rest c.args.source.now) (g.S.Source.rest c.has_checkpoint.new.source) _ true c.requires.window (cc c.in-Ok-true.field-0-test) c.in-Ok-true.ensures.shows)
    (g.S.Source.rest c.kept_checkpoint.new.source)
    (subst (λ (f : StartFault). FindsNone c.has_checkpoint.new.window (g.S.Source.rest c.has_checkpoint.new.source) (g.S.Source.rest c.kept_checkpoint.new.source) f) c.in-Err-Read.field-0-is c.in-Err-Read.ensures.none)

pub returns-in-Err-Memory-clause-fails : goal.returns-in-Err-Memory-clause-fails
returns-in-Err-Memory-clause-fails g c =
    out_checkpoint c.args.limit c.has_checkpoint.new.window (g.S.Source.rest c.args.source.now) (g.S.Source.rest c.has_checkpoint.new.source)
    (seen c.args.window.now _ c.has_checkpoint.new.window (g.S.Source.rest c.args.source.now) (g.S.Source.rest c.has_checkpoint.new.source) _ true c.requires.window (cc c.in-Ok-true.field-0-test) c.in-Ok-true.ensures.shows)
    (g.S.Source.rest c.kept_checkpoint.new.source)
    (subst (λ (f : StartFault). FindsNone c.has_checkpoint.new.window (g.S.Source.rest c.has_checkpoint.new.source) (g.S.Source.rest c.kept_checkpoint.new.source) f) c.in-Err-Memory.field-0-is c.in-Err-Memory.ensures.none)

pub returns-in-Err-NoCheckpoint-clause-fails : goal.returns-in-Err-NoCheckpoint-clause-fails
returns-in-Err-NoCheckpoint-clause-fails g c =
    bad_checkpoint c.args.limit c.has_checkpoint.new.window (g.S.Source.rest c.args.source.now) (g.S.Source.rest c.has_checkpoint.new.source)
    (seen c.args.window.now _ c.has_checkpoint.new.window (g.S.Source.rest c.args.source.now) (g.S.Source.rest c.has_checkpoint.new.source) _ true c.requires.window (cc c.in-Ok-true.field-0-test) c.in-Ok-true.ensures.shows)
    (g.S.Source.rest c.kept_checkpoint.new.source)
    (subst (λ (f : StartFault). FindsNone c.has_checkpoint.new.window (g.S.Source.rest c.has_checkpoint.new.source) (g.S.Source.rest c.kept_checkpoint.new.source) f) c.in-Err-NoCheckpoint.field-0-is c.in-Err-NoCheckpoint.ensures.none)

pub stored_first-requires : goal.stored_first-requires
stored_first-requires g c = omega (arith, ap length c.in-Ok.ensures.bytes, checkpoint_short c.in-Ok.kept.market c.in-Ok.ensures.kept.is_one.consistent)

pub returns-in-Ok-stored_first-clause-opens : goal.returns-in-Ok-stored_first-clause-opens
returns-in-Ok-stored_first-clause-opens g c = λ few.
    let market = c.in-Ok.kept.market in
    let stored = subst (λ (l : List ℕ). c.in-Ok-stored_first.stored.items ≡ framed l ++ 0 ∷ []) c.in-Ok.ensures.bytes c.in-Ok-stored_first.ensures in
    takes_checkpoint c.args.limit c.has_checkpoint.new.window (g.S.Source.rest c.args.source.now) (g.S.Source.rest c.has_checkpoint.new.source)
    (seen c.args.window.now _ c.has_checkpoint.new.window (g.S.Source.rest c.args.source.now) (g.S.Source.rest c.has_checkpoint.new.source) _ true c.requires.window (cc c.in-Ok-true.field-0-test) c.in-Ok-true.ensures.shows)
    (g.S.Source.rest c.kept_checkpoint.new.source) c.kept_checkpoint.new.window market c.in-Ok.ensures.kept c.in-Ok-stored_first.stored.items stored few

pub returns-in-Err-stored_first-clause-fails : goal.returns-in-Err-stored_first-clause-fails
returns-in-Err-stored_first-clause-fails g c =
    out_stored c.args.limit c.has_checkpoint.new.window (g.S.Source.rest c.args.source.now) (g.S.Source.rest c.has_checkpoint.new.source)
    (seen c.args.window.now _ c.has_checkpoint.new.window (g.S.Source.rest c.args.source.now) (g.S.Source.rest c.has_checkpoint.new.source) _ true c.requires.window (cc c.in-Ok-true.field-0-test) c.in-Ok-true.ensures.shows)
    (g.S.Source.rest c.kept_checkpoint.new.source) c.kept_checkpoint.new.window c.in-Ok.kept.market c.in-Ok.ensures.kept

pub returns-in-Ok-stored_first-clause-opened : goal.returns-in-Ok-stored_first-clause-opened
returns-in-Ok-stored_first-clause-opened g c =
    checkpoint_open c.args.limit c.has_checkpoint.new.window (g.S.Source.rest c.args.source.now) (g.S.Source.rest c.has_checkpoint.new.source) (seen c.args.window.now _ c.has_checkpoint.new.window (g.S.Source.rest c.args.source.now) (g.S.Source.rest c.has_checkpoint.new.source) _ true c.requires.window (cc c.in-Ok-true.field-0-test) c.in-Ok-true.ensures.shows) (g.S.Source.rest c.kept_checkpoint.new.source) c.kept_checkpoint.new.window c.in-Ok.kept.market c.in-Ok.ensures.kept
