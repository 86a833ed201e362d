use Rattle.std.proofs.Common.{drop, sym, refl, ◌∙◌}
use Rattle.std.proofs.lemmas.Bool.{false≢true}
use Rattle.std.proofs.lemmas.Bool.Decides.{Decides-eqb}
use Rattle.std.proofs.lemmas.Slice.Eq.{starts_is}
use Rattle.market_snapshot.specs.Checkpoints.{checkpoint_magic}
use Rattle.market_history.proofs.Starting.{begins_journal, begins_otherwise, finds_kept}
use Rattle.market_history.proofs.start.market_at.Goals as goal

pub returns-in-Some-clause-finds : goal.returns-in-Some-clause-finds
returns-in-Some-clause-finds g c = λ before takes.
    let begins = (c.in-Some.ensures.exact c.in-Some.version).0 refl in
    begins_journal before (g.S.Source.rest c.args.source.now) c.args.window.now takes c.requires.some c.in-Some.version begins.0 c.advance.new.self c.new_in.result (rw c.held.ensures.held at begins.1) c.new_in.ensures c.advance.ensures c.requires.first c.requires.within c.requires.open

pub returns-then-not-starts_with-clause-finds : goal.returns-then-not-starts_with-clause-finds
returns-then-not-starts_with-clause-finds g c = λ before takes.
    begins_otherwise before (g.S.Source.rest c.args.source.now) c.args.window.now takes c.requires.some c.requires.first c.requires.within (rw c.held.ensures.held at c.in_default.ensures.none)
    (λ magic.
    let found = (starts_is Decides-eqb c.args.window.now.held checkpoint_magic c.starts_with.result (rw c.held-2.ensures.held at c.starts_with.ensures.value)).1 magic.0 magic.1 in
    false≢true (sym c.if-not-starts_with.true ∙ found))

pub returns-clause-finds : goal.returns-clause-finds
returns-clause-finds g c = λ before takes.
    let begins = (starts_is Decides-eqb c.args.window.now.held checkpoint_magic c.starts_with.result (rw c.held-2.ensures.held at c.starts_with.ensures.value)).0 c.if-not-starts_with.false in
    finds_kept before (g.S.Source.rest c.args.source.now) c.args.window.now takes c.requires.some (g.S.Source.rest c.kept_market.new.source) c.kept_market.new.window c.requires.first c.requires.within (rw c.held.ensures.held at c.in_default.ensures.none) (drop 8 c.args.window.now.held, begins)
    c.kept_market.result c.kept_market.ensures.kept c.kept_market.ensures.none
