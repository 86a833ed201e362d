use Rattle.std.proofs.Common.{◌≡◌, ◌≢◌, ◌+◌, ◌++◌, ℕ, List, Option, IfSome, length, take, drop, sym, subst, ◌∙◌, arith}
use Rattle.wire_fields.specs.Numbers.{unsigned}
use Rattle.journal_disk.proofs.Pieces.{size_known}
use Rattle.journal_disk.proofs.FirstEntry.{none_short, none_past, none_begins, some_first}
use Rattle.journal_disk.proofs.journal.DiskJournal.find_first.Goals as goal

pub returns-then-end-place-clause-found : goal.returns-then-end-place-clause-found
returns-then-end-place-clause-found g c =
    rw (← c.self.view_is)
    (none_short (g.D.Disk.state c.args.disk.now).content c.self.inside.place c.size.result c.min-end.result c.args.magic.now (subst (λ (n : ℕ). IfSome (g.D.Disk.state c.args.disk.now).content (λ bytes. n ≡ length bytes)) (sym c.size.ensures) (size_known c.args.ahead.now (g.D.Disk.state c.args.disk.now).content c.requires.piece)) c.min-end.ensures c.if-end-place.true)

pub returns-then-end-place-2-clause-found : goal.returns-then-end-place-2-clause-found
returns-then-end-place-2-clause-found g c =
    rw (← c.self.view_is)
    (none_past (g.D.Disk.state c.args.disk.now).content c.self.inside.place c.size.result c.min-end.result c.args.magic.now (subst (λ (n : ℕ). IfSome (g.D.Disk.state c.args.disk.now).content (λ bytes. n ≡ length bytes)) (sym c.size.ensures) (size_known c.args.ahead.now (g.D.Disk.state c.args.disk.now).content c.requires.piece)) c.min-end.ensures c.in_ok-count.count (omega arith) (subst (λ (o : Option (List ℕ)). IfSome o (λ bytes. take 4 (drop (c.self.inside.place + 1) bytes) ≡ unsigned 4 c.in_ok-count.count)) c.byte_at.ensures.looks.content c.in_ok-count.ensures.number) c.if-end-place-2.true)

pub returns-then-branch-clause-found : goal.returns-then-branch-clause-found
returns-then-branch-clause-found g c =
    rw (← c.self.view_is)
    (some_first (g.D.Disk.state c.args.disk.now).content c.self.inside.place c.size.result c.min-end.result c.args.magic.now (subst (λ (n : ℕ). IfSome (g.D.Disk.state c.args.disk.now).content (λ bytes. n ≡ length bytes)) (sym c.size.ensures) (size_known c.args.ahead.now (g.D.Disk.state c.args.disk.now).content c.requires.piece)) c.min-end.ensures c.in_ok-count.count (omega arith) (subst (λ (o : Option (List ℕ)). IfSome o (λ bytes. take 4 (drop (c.self.inside.place + 1) bytes) ≡ unsigned 4 c.in_ok-count.count)) c.byte_at.ensures.looks.content c.in_ok-count.ensures.number) c.in_ok-byte_at.field-0
    (subst (λ (o : Option (List ℕ)). IfSome o (λ bytes. (rest : List ℕ) × (take c.in_ok-count.count (drop (c.self.inside.place + 5) bytes) ≡ c.args.magic.now ++ rest)))
    (c.number_at.ensures.looks.content ∙ c.byte_at.ensures.looks.content) (c.in_ok-begins_at.ensures.begins c.if-branch.true))
    c.in_ok-byte_at.ensures.byte c.if-branch-ne-OPEN.false (omega (arith, c.if-end-place.false)) (omega (arith, c.if-end-place-2.false)))

pub returns-else-branch-clause-found : goal.returns-else-branch-clause-found
returns-else-branch-clause-found g c =
    rw (← c.self.view_is)
    (none_begins (g.D.Disk.state c.args.disk.now).content c.self.inside.place c.size.result c.min-end.result c.args.magic.now (subst (λ (n : ℕ). IfSome (g.D.Disk.state c.args.disk.now).content (λ bytes. n ≡ length bytes)) (sym c.size.ensures) (size_known c.args.ahead.now (g.D.Disk.state c.args.disk.now).content c.requires.piece)) c.min-end.ensures c.in_ok-count.count (omega arith) (subst (λ (o : Option (List ℕ)). IfSome o (λ bytes. take 4 (drop (c.self.inside.place + 1) bytes) ≡ unsigned 4 c.in_ok-count.count)) c.byte_at.ensures.looks.content c.in_ok-count.ensures.number)
    (subst (λ (o : Option (List ℕ)). IfSome o (λ bytes. (held rest : List ℕ) → length (c.args.magic.now ++ held) ≡ c.in_ok-count.count → drop (c.self.inside.place + 5) bytes ≢ (c.args.magic.now ++ held) ++ rest))
    (c.number_at.ensures.looks.content ∙ c.byte_at.ensures.looks.content) (c.in_ok-begins_at.ensures.other c.if-branch.false)))
