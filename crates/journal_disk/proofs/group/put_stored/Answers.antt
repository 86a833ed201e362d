use Rattle.std.proofs.Common.{◌++◌, ◌∙◌, ap, length, [], ◌∷◌, List, ℕ}
use Rattle.wire_fields.specs.Numbers.{unsigned}
use Rattle.journal_disk.specs.Entries.{framed}
use Rattle.journal_disk.proofs.Grouping.{parts_of}
use Rattle.journal_disk.proofs.group.put_stored.Goals as goal

pub returns-clause-stored : goal.returns-clause-stored
unfolding framed unsigned
returns-clause-stored c =
    c.put_u8.ensures.written
    ∙ ap (λ (l : List ℕ). l ++ 0 ∷ []) (c.put_bytes.ensures.written ∙ ap (λ (l : List ℕ). l ++ c.args.pair.now) c.put_u32.ensures.written)
    ∙ parts_of c.args.buffer.now.items (unsigned 4 (length c.args.pair.now)) c.args.pair.now (0 ∷ [])
