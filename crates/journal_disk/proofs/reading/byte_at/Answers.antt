use Rattle.journal_disk.proofs.Pieces.{byte_read}
use Rattle.journal_disk.proofs.reading.byte_at.Goals as goal

pub returns-clause-byte : goal.returns-clause-byte
returns-clause-byte g c =
    byte_read c.see.new.self (g.D.Disk.state c.args.disk.now).content (g.D.Disk.state c.see.new.disk).content c.args.place c.part.result.now c.in_ok-see.ensures.looks.content c.in_ok-see.ensures.piece c.in_ok-see.ensures.held c.part.ensures
