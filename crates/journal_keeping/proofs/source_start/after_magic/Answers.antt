use Rattle.std.proofs.Common.{refl, ap, sym, subst, ◌∙◌, arith, length, ◌++◌, ◌≡◌}
use Rattle.std.proofs.lemmas.Bool.{false≢true}
use Rattle.wire_records.specs.Formats.{command_magic_of}
use Rattle.wire_records.specs.declared.version.Version.{Version}
use Rattle.journal_keeping.proofs.Magic.{none_found}
use Rattle.journal_keeping.proofs.source_start.after_magic.Goals as goal

pub returns-then-not-is_same-clause-other : goal.returns-then-not-is_same-clause-other
returns-then-not-is_same-clause-other c =
    (refl, rw c.held.ensures.held at (none_found c.in-Some.found c.args.version c.held.result.now (rw c.in-Some.is at c.command_version.ensures.exact) (λ same. false≢true (sym c.if-not-is_same.true ∙ c.is_same.ensures.1 same))))

pub returns-clause-following : goal.returns-clause-following
returns-clause-following c =
    let found = rw c.held.ensures.held at ((c.command_version.ensures.exact c.in-Some.found).0 c.in-Some.is) in
    ((found.0, (tt, subst (λ (v : Version). c.args.window.held ≡ command_magic_of v ++ found.0) (c.is_same.ensures.0 c.if-not-is_same.false) found.1.1)), c.advance.ensures, omega (arith, c.held.ensures.few, ap length c.held.ensures.held))
