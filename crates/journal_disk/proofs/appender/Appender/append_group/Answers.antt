use Rattle.std.proofs.Common.{◌++◌, sym, ap, subst, ◌∙◌, [], ◌∷◌, List, ℕ, arith}
use Rattle.std.proofs.lemmas.Bool.{false≢true}
use Rattle.journal_disk.specs.Entries.{Keeps}
use Rattle.journal_disk.proofs.Appending.{none_added, none_moments}
use Rattle.journal_disk.proofs.appender.Appender.append_group.Goals as goal

pub returns-then-is_empty-clause-kept : goal.returns-then-is_empty-clause-kept
returns-then-is_empty-clause-kept g c = λ head pairs more keeps each stored.
    none_added head pairs more c.args.self.now (g.D.Disk.state c.args.disk.now) keeps (sym stored ∙ c.is_empty.ensures.0 c.if-is_empty.true)

pub returns-then-is_empty-clause-moments : goal.returns-then-is_empty-clause-moments
returns-then-is_empty-clause-moments g c = λ head pairs more keeps each stored.
    none_moments head pairs more c.args.self.now (g.D.Disk.state c.args.disk.now) keeps (sym stored ∙ c.is_empty.ensures.0 c.if-is_empty.true) (g.met.D.Disk.is_disk c.args.disk.now)

pub returns-in_err-append_stored-clause-moments : goal.returns-in_err-append_stored-clause-moments
returns-in_err-append_stored-clause-moments g c = λ head pairs more keeps each stored.
    let written = c.after_commit.ensures.stored (λ none. false≢true (sym c.if-is_empty.false ∙ c.is_empty.ensures.1 none)) in
    c.append_stored.ensures.moments head pairs more (subst (λ (n : ℕ). Keeps head pairs n (g.D.Disk.state c.args.disk.now)) (sym c.self.view_is) keeps) each
    (written ∙ ap (λ (l : List ℕ). l ++ 0 ∷ []) stored)

pub returns-clause-moments : goal.returns-clause-moments
returns-clause-moments g c = λ head pairs more keeps each stored.
    let written = c.after_commit.ensures.stored (λ none. false≢true (sym c.if-is_empty.false ∙ c.is_empty.ensures.1 none)) in
    c.append_stored.ensures.moments head pairs more (subst (λ (n : ℕ). Keeps head pairs n (g.D.Disk.state c.args.disk.now)) (sym c.self.view_is) keeps) each
    (written ∙ ap (λ (l : List ℕ). l ++ 0 ∷ []) stored)

pub returns-clause-kept : goal.returns-clause-kept
returns-clause-kept g c = λ head pairs more keeps each stored.
    let written = c.after_commit.ensures.stored (λ none. false≢true (sym c.if-is_empty.false ∙ c.is_empty.ensures.1 none)) in
    subst (λ (n : ℕ). Keeps head (pairs ++ more) n (g.D.Disk.state c.append_stored.new.disk)) (omega (arith, c.after_commit.ensures.len, c.len.ensures))
    (c.in_ok-append_stored.ensures.kept head pairs more (subst (λ (n : ℕ). Keeps head pairs n (g.D.Disk.state c.args.disk.now)) (sym c.self.view_is) keeps) each
    (written ∙ ap (λ (l : List ℕ). l ++ 0 ∷ []) stored))
