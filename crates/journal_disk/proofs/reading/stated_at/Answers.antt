use Rattle.std.proofs.Common.{inl, inr, arith}
use Rattle.journal_disk.proofs.Framing.{told_long}
use Rattle.journal_disk.proofs.reading.stated_at.Goals as goal

pub returns-then-count-gt-LONGEST_PAIR-clause-stated : goal.returns-then-count-gt-LONGEST_PAIR-clause-stated
returns-then-count-gt-LONGEST_PAIR-clause-stated g c =
    told_long (g.D.Disk.state c.args.disk.now).content c.args.place c.in_ok-count.count (omega arith) c.in_ok-count.ensures.number c.args.end (inl c.if-count-gt-LONGEST_PAIR.true)

pub returns-then-end-place-2-clause-stated : goal.returns-then-end-place-2-clause-stated
returns-then-end-place-2-clause-stated g c =
    told_long (g.D.Disk.state c.args.disk.now).content c.args.place c.in_ok-count.count (omega arith) c.in_ok-count.ensures.number c.args.end (inr c.if-end-place-2.true)
