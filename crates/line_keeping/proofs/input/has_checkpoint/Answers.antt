use Rattle.std.proofs.Common.{◌≡◌, ℕ, List, ◌++◌, sym, ap, subst, ◌∙◌, arith, length, drop}
use Rattle.std.proofs.lemmas.Bool.{false≢true}
use Rattle.std.proofs.lemmas.Bool.Decides.{Decides-eqb}
use Rattle.std.proofs.lemmas.Slice.Eq.{starts_is}
use Rattle.market_snapshot.specs.Checkpoints.{checkpoint_magic, HasCheckpointMagic}
use Rattle.line_keeping.proofs.Looking.{shows_eight, shows_other, shows_none}
use Rattle.line_keeping.proofs.input.has_checkpoint.Goals as goal

pub returns-then-count-ge8-clause-shows : goal.returns-then-count-ge8-clause-shows
returns-then-count-ge8-clause-shows g c =
    let tells = starts_is Decides-eqb c.held-held.result.now checkpoint_magic c.starts_with.result c.starts_with.ensures.value in
    let held = c.held-held.ensures.held in
    shows_eight c.args.window.now c.reads.window (g.S.Source.rest c.args.source.now) (g.S.Source.rest c.reads.source) c.reads.invariant.0 c.starts_with.result (omega (arith, c.if-count-ge8.true, ap length held))
    (λ is. subst HasCheckpointMagic held (_, tells.0 is)) (λ has. let back = subst HasCheckpointMagic (sym held) has in tells.1 back.0 back.1)

pub returns-then-not-starts_with-clause-shows : goal.returns-then-not-starts_with-clause-shows
returns-then-not-starts_with-clause-shows g c =
    let tells = starts_is Decides-eqb checkpoint_magic c.held-held.result.now c.starts_with-in-reads.result c.starts_with-in-reads.ensures.value in
    let held = c.held-held.ensures.held in
    shows_other c.args.window.now c.reads.window (g.S.Source.rest c.args.source.now) (g.S.Source.rest c.reads.source) c.reads.invariant.0 (omega (arith, c.if-count-ge8.false, ap length held))
    (λ tail is. false≢true (sym c.if-not-starts_with.true ∙ tells.1 tail (subst (λ (l : List ℕ). checkpoint_magic ≡ l ++ tail) (sym held) is)))

pub returns-in-Err-clause-none : goal.returns-in-Err-clause-none
returns-in-Err-clause-none g c =
    let e = c.in-Err.ensures in
    let held = c.held-held.ensures.held in
    let tells = starts_is Decides-eqb checkpoint_magic c.held-held.result.now c.starts_with-in-reads.result c.starts_with-in-reads.ensures.value in
    shows_none c.args.window.now c.reads.window (g.S.Source.rest c.args.source.now) (g.S.Source.rest c.reads.source) c.reads.invariant.0 c.fill.new.self (g.S.Source.rest c.fill.new.source) e.fills e.all e.within
    (drop (length c.held-held.result.now) checkpoint_magic, subst (λ (l : List ℕ). checkpoint_magic ≡ l ++ drop (length c.held-held.result.now) checkpoint_magic) held (tells.0 c.if-not-starts_with.false)) (omega (arith, e.failed.1, ap length held)) (omega (arith, c.if-count-ge8.false, ap length held)) e.failed.0
