use Rattle.std.proofs.Common.{◌++◌, length, sym, ap, subst, ◌∙◌, [], ◌∷◌, List, ℕ, arith, length-append}
use Rattle.journal_disk.specs.Entries.{framed, Keeps}
use Rattle.journal_disk.proofs.Entries.{pair_short, length-framed}
use Rattle.journal_disk.proofs.Grouping.{of_one}
use Rattle.journal_disk.proofs.Lengths.{reach_wider}
use Rattle.journal_disk.proofs.appender.Appender.append.Goals as goal

pub put_stored-requires-clause-room : goal.put_stored-requires-clause-room
put_stored-requires-clause-room g c =
    let p = c.requires.pair in omega (arith, pair_short p.0 p.1, ap length p.2, c.self.invariant, c.clear.ensures.len, c.clear.ensures.capacity)

pub put_stored-requires-clause-short : goal.put_stored-requires-clause-short
put_stored-requires-clause-short g c = let p = c.requires.pair in omega (arith, pair_short p.0 p.1, ap length p.2)

pub append_stored-requires-clause-short : goal.append_stored-requires-clause-short
append_stored-requires-clause-short g c =
    let p = c.requires.pair in
    let filled = c.deref.ensures.value ∙ c.put_stored.ensures.stored ∙ ap (λ (l : List ℕ). l ++ (framed c.args.pair.now ++ 0 ∷ [])) c.clear.ensures.items in
    omega (arith, ap length filled, length-append (framed c.args.pair.now) (0 ∷ []), length-framed c.args.pair.now, pair_short p.0 p.1, ap length p.2)

pub returns-in_err-append_stored-clause-moments : goal.returns-in_err-append_stored-clause-moments
returns-in_err-append_stored-clause-moments g c = λ head pairs last keeps is encoded.
    let filled = c.deref.ensures.value ∙ c.put_stored.ensures.stored ∙ ap (λ (l : List ℕ). l ++ (framed c.args.pair.now ++ 0 ∷ [])) c.clear.ensures.items in
    c.append_stored.ensures.moments head pairs (last ∷ []) (subst (λ (n : ℕ). Keeps head pairs n (g.D.Disk.state c.args.disk.now)) (sym c.self.view_is) keeps) (is, tt) (of_one c.args.pair.now c.deref.result.now last filled encoded)

pub returns-clause-moments : goal.returns-clause-moments
returns-clause-moments g c = λ head pairs last keeps is encoded.
    let filled = c.deref.ensures.value ∙ c.put_stored.ensures.stored ∙ ap (λ (l : List ℕ). l ++ (framed c.args.pair.now ++ 0 ∷ [])) c.clear.ensures.items in
    c.append_stored.ensures.moments head pairs (last ∷ []) (subst (λ (n : ℕ). Keeps head pairs n (g.D.Disk.state c.args.disk.now)) (sym c.self.view_is) keeps) (is, tt) (of_one c.args.pair.now c.deref.result.now last filled encoded)

pub returns-clause-kept : goal.returns-clause-kept
returns-clause-kept g c = λ head pairs last keeps is encoded.
    let filled = c.deref.ensures.value ∙ c.put_stored.ensures.stored ∙ ap (λ (l : List ℕ). l ++ (framed c.args.pair.now ++ 0 ∷ [])) c.clear.ensures.items in
    subst (λ (n : ℕ). Keeps head (pairs ++ last ∷ []) n (g.D.Disk.state c.append_stored.new.disk))
    (omega (arith, ap length filled, length-append (framed c.args.pair.now) (0 ∷ []), length-framed c.args.pair.now))
    (c.in_ok-append_stored.ensures.kept head pairs (last ∷ []) (subst (λ (n : ℕ). Keeps head pairs n (g.D.Disk.state c.args.disk.now)) (sym c.self.view_is) keeps) (is, tt) (of_one c.args.pair.now c.deref.result.now last filled encoded))

pub returns-in_err-append_stored-clause-lengths : goal.returns-in_err-append_stored-clause-lengths
returns-in_err-append_stored-clause-lengths g c =
    let filled = c.deref.ensures.value ∙ c.put_stored.ensures.stored ∙ ap (λ (l : List ℕ). l ++ (framed c.args.pair.now ++ 0 ∷ [])) c.clear.ensures.items in
    reach_wider _ _ (g.D.Disk.state c.args.disk.now) (g.D.Disk.state c.append_stored.new.disk)
    (omega (arith, c.self.view_is, ap length filled, length-append (framed c.args.pair.now) (0 ∷ []), length-framed c.args.pair.now)) c.append_stored.ensures.lengths

pub returns-clause-lengths : goal.returns-clause-lengths
returns-clause-lengths g c =
    let filled = c.deref.ensures.value ∙ c.put_stored.ensures.stored ∙ ap (λ (l : List ℕ). l ++ (framed c.args.pair.now ++ 0 ∷ [])) c.clear.ensures.items in
    reach_wider _ _ (g.D.Disk.state c.args.disk.now) (g.D.Disk.state c.append_stored.new.disk)
    (omega (arith, c.self.view_is, ap length filled, length-append (framed c.args.pair.now) (0 ∷ []), length-framed c.args.pair.now)) c.append_stored.ensures.lengths
