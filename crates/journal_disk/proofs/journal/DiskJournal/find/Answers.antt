use Rattle.std.proofs.Common.{◌≡◌, ◌+◌, ℕ, length, arith, IfSome, Option, sym, subst}
use Rattle.journal_disk.specs.Frames.{IsStated}
use Rattle.journal_disk.proofs.Pieces.{size_known}
use Rattle.journal_disk.proofs.Stepping.{told_closed, told_unset, told_damaged}
use Rattle.journal_disk.proofs.journal.DiskJournal.find.Goals as goal

pub returns-then-branch-ne-OPEN-clause-found : goal.returns-then-branch-ne-OPEN-clause-found
returns-then-branch-ne-OPEN-clause-found g c =
    rw (← c.self.view_is)
    (told_closed (g.D.Disk.state c.args.disk.now).content c.self.inside.place c.size-length.result c.in_ok-byte_at.field-0 (subst (λ (n : ℕ). IfSome (g.D.Disk.state c.args.disk.now).content (λ bytes. n ≡ length bytes)) (sym c.size-length.ensures) (size_known c.args.ahead.now (g.D.Disk.state c.args.disk.now).content c.requires.piece)) (omega arith) c.in_ok-byte_at.ensures.byte c.if-branch-ne-OPEN.true (omega (arith, c.if-length-place-gt-MOST_UNKEPT.false)))

pub returns-then-length-place-gt-MOST_UNKEPT-clause-found : goal.returns-then-length-place-gt-MOST_UNKEPT-clause-found
returns-then-length-place-gt-MOST_UNKEPT-clause-found g c =
    rw (← c.self.view_is)
    (told_unset (g.D.Disk.state c.args.disk.now).content c.self.inside.place c.size-length.result c.in_ok-byte_at.field-0 (subst (λ (n : ℕ). IfSome (g.D.Disk.state c.args.disk.now).content (λ bytes. n ≡ length bytes)) (sym c.size-length.ensures) (size_known c.args.ahead.now (g.D.Disk.state c.args.disk.now).content c.requires.piece)) (omega arith) c.in_ok-byte_at.ensures.byte c.if-branch-ne-OPEN.true c.if-length-place-gt-MOST_UNKEPT.true)

pub returns-in-None-clause-found : goal.returns-in-None-clause-found
returns-in-None-clause-found g c =
    rw (← c.self.view_is)
    (told_damaged (g.D.Disk.state c.args.disk.now).content c.self.inside.place c.size-length.result c.in_ok-byte_at.field-0 (subst (λ (n : ℕ). IfSome (g.D.Disk.state c.args.disk.now).content (λ bytes. n ≡ length bytes)) (sym c.size-length.ensures) (size_known c.args.ahead.now (g.D.Disk.state c.args.disk.now).content c.requires.piece)) (omega arith) c.in_ok-byte_at.ensures.byte (g.D.Disk.state c.byte_at.new.disk).content c.byte_at.ensures.looks.content c.min.result c.if-branch-ne-OPEN.false c.min.ensures (subst (λ (o : Option ℕ). IfSome (g.D.Disk.state c.byte_at.new.disk).content (IsStated o (c.self.inside.place + 1) c.min.result)) c.in-None.is c.in_ok-count.ensures.stated))
