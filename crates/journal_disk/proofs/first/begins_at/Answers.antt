use Rattle.std.proofs.Common.{length, arith}
use Rattle.journal_disk.proofs.Pieces.{part_read}
use Rattle.journal_disk.proofs.FirstEntry.{this_magic, other_magic}
use Rattle.journal_disk.proofs.first.begins_at.Goals as goal

pub returns-then-not-starts_with-clause-other : goal.returns-then-not-starts_with-clause-other
returns-then-not-starts_with-clause-other g c = λ _.
    let e = c.in_ok-see.ensures in
    other_magic (g.D.Disk.state c.args.disk.now).content c.args.place c.args.count c.args.magic.now c.part.result.now c.starts_with.result
    (part_read c.see.new.self (g.D.Disk.state c.args.disk.now).content (g.D.Disk.state c.see.new.disk).content c.args.place (length c.args.magic.now) c.part.result.now e.looks.content e.piece e.held c.part.ensures)
    c.starts_with.ensures.value c.if-not-starts_with.true

pub returns-clause-begins : goal.returns-clause-begins
returns-clause-begins g c = λ _.
    let e = c.in_ok-see.ensures in
    this_magic (g.D.Disk.state c.args.disk.now).content c.args.place c.args.count c.args.magic.now c.part.result.now c.starts_with.result (omega (arith, c.if-count-magic.false))
    (part_read c.see.new.self (g.D.Disk.state c.args.disk.now).content (g.D.Disk.state c.see.new.disk).content c.args.place (length c.args.magic.now) c.part.result.now e.looks.content e.piece e.held c.part.ensures)
    c.starts_with.ensures.value c.if-not-starts_with.false
