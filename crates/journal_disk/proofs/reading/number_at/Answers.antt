use Rattle.std.proofs.Common.{◌≡◌, Option, List, ℕ, Some, None, IfSome, sym, ◌∙◌, take, drop}
use Rattle.wire_fields.specs.Numbers.{unsigned}
use Rattle.journal_disk.proofs.Pieces.{part_read}
use Rattle.journal_disk.proofs.reading.number_at.Goals as goal

over : (content : Option (List ℕ)) (place number : ℕ) (got : List ℕ) → IfSome content (λ bytes. got ≡ take 4 (drop place bytes)) → got ≡ unsigned 4 number → IfSome content (λ bytes. take 4 (drop place bytes) ≡ unsigned 4 number)
over None place number got reads encodes = tt
over (Some bytes) place number got reads encodes = sym reads ∙ encodes

pub returns-clause-number : goal.returns-clause-number
returns-clause-number g c =
    let e = c.in_ok-see.ensures in
    over (g.D.Disk.state c.args.disk.now).content c.args.place c.number_of.result c.part.result.now
    (part_read c.see.new.self (g.D.Disk.state c.args.disk.now).content (g.D.Disk.state c.see.new.disk).content c.args.place 4 c.part.result.now e.looks.content e.piece e.held c.part.ensures)
    c.number_of.ensures
