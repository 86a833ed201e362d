use Rattle.std.proofs.Common.{◌≡◌, ◌+◌, length, sym, subst, [], None, ℕ, arith, IfSome}
use Rattle.journal_disk.specs.Entries.{Keeps}
use Rattle.journal_disk.proofs.Appending.{first_commit_within, first_fits, first_cut_short, first_both_steps, first_added}
use Rattle.journal_disk.proofs.appender.Appender.append_first.Goals as goal

pub write_synced-requires : goal.write_synced-requires
write_synced-requires g c =
    let within = first_commit_within c.args.self.now (g.D.Disk.state c.args.disk.now) c.requires.kept in
    first_fits (g.D.Disk.state c.args.disk.now).content c.self.inside.place (length c.args.stored.now) (omega (arith, c.requires.first, c.self.view_is)) (omega (arith, c.requires.short))
    (subst (λ (n : ℕ). IfSome (g.D.Disk.state c.args.disk.now).content (λ held. length held ≡ n + 1)) (sym c.self.view_is) within)

pub returns-in_err-write_synced-clause-moments : goal.returns-in_err-write_synced-clause-moments
returns-in_err-write_synced-clause-moments g c = λ version bytes keeps is filled.
    first_cut_short version bytes c.self.inside.place c.args.stored.now (g.D.Disk.state c.args.disk.now) (g.D.Disk.state c.write_synced.new.disk) (subst (λ (n : ℕ). Keeps (record { version = version; first = None }) [] n (g.D.Disk.state c.args.disk.now)) (sym c.self.view_is) keeps) is filled c.write_synced.ensures.moments

pub returns-in_err-set_commit-clause-moments : goal.returns-in_err-set_commit-clause-moments
returns-in_err-set_commit-clause-moments g c = λ version bytes keeps is filled.
    first_both_steps version bytes c.self.inside.place c.args.stored.now (g.D.Disk.state c.args.disk.now) (g.D.Disk.state c.write_synced.new.disk) (subst (λ (n : ℕ). Keeps (record { version = version; first = None }) [] n (g.D.Disk.state c.args.disk.now)) (sym c.self.view_is) keeps) is filled (g.D.Disk.state c.set_commit.new.disk) c.in_ok-write_synced.ensures.written c.in_ok-write_synced.ensures.kept c.write_synced.ensures.moments c.set_commit.ensures.moments

pub returns-clause-moments : goal.returns-clause-moments
returns-clause-moments g c = λ version bytes keeps is filled.
    first_both_steps version bytes c.self.inside.place c.args.stored.now (g.D.Disk.state c.args.disk.now) (g.D.Disk.state c.write_synced.new.disk) (subst (λ (n : ℕ). Keeps (record { version = version; first = None }) [] n (g.D.Disk.state c.args.disk.now)) (sym c.self.view_is) keeps) is filled (g.D.Disk.state c.set_commit.new.disk) c.in_ok-write_synced.ensures.written c.in_ok-write_synced.ensures.kept c.write_synced.ensures.moments c.set_commit.ensures.moments

pub returns-clause-kept : goal.returns-clause-kept
returns-clause-kept g c = λ version bytes keeps is filled.
    first_added version bytes c.self.inside.place c.args.stored.now (g.D.Disk.state c.args.disk.now) (g.D.Disk.state c.write_synced.new.disk) (subst (λ (n : ℕ). Keeps (record { version = version; first = None }) [] n (g.D.Disk.state c.args.disk.now)) (sym c.self.view_is) keeps) is filled (g.D.Disk.state c.set_commit.new.disk) c.in_ok-write_synced.ensures.written c.in_ok-set_commit.ensures.written c.in_ok-set_commit.ensures.kept
