use Rattle.std.proofs.Common.{sym, subst, ℕ}
use Rattle.journal_disk.specs.Entries.{EndsAt, Keeps}
use Rattle.journal_disk.proofs.Beginning.{begins_moments, begins_keeps}
use Rattle.journal_disk.proofs.journal.DiskJournal.begin.Goals as goal

pub returns-in_err-cut_synced-clause-moments : goal.returns-in_err-cut_synced-clause-moments
returns-in_err-cut_synced-clause-moments g c = λ version pairs ends.
    begins_moments version pairs c.self.inside.place (g.D.Disk.state c.args.disk.now) (g.D.Disk.state c.cut_synced.new.disk) (subst (λ (n : ℕ). EndsAt version pairs n (g.D.Disk.state c.args.disk.now)) (sym c.self.view_is) ends) c.cut_synced.ensures.moments

pub returns-clause-moments : goal.returns-clause-moments
returns-clause-moments g c = λ version pairs ends.
    begins_moments version pairs c.self.inside.place (g.D.Disk.state c.args.disk.now) (g.D.Disk.state c.cut_synced.new.disk) (subst (λ (n : ℕ). EndsAt version pairs n (g.D.Disk.state c.args.disk.now)) (sym c.self.view_is) ends) c.cut_synced.ensures.moments

pub returns-clause-keeps : goal.returns-clause-keeps
returns-clause-keeps g c = λ version pairs ends.
    let keeps = begins_keeps version pairs c.self.inside.place (g.D.Disk.state c.args.disk.now) (g.D.Disk.state c.cut_synced.new.disk) (subst (λ (n : ℕ). EndsAt version pairs n (g.D.Disk.state c.args.disk.now)) (sym c.self.view_is) ends) c.in_ok-cut_synced.ensures.cut c.in_ok-cut_synced.ensures.kept in
    subst (λ (n : ℕ). Keeps version pairs n (g.D.Disk.state c.cut_synced.new.disk)) (sym c.in_ok-appender.ensures) keeps
