use Rattle.std.proofs.Common.{◌-◌, ◌++◌, ap, ◌∙◌, arith, vec_len}
use Rattle.wire_fields.specs.Numbers.{unsigned}
use Rattle.journal_disk.proofs.Framing.{turned_to_front}
use Rattle.journal_disk.proofs.first.stored_first.Goals as goal

pub returns : goal.returns
returns c =
    let count = c.len-count.result in
    turned_to_front c.args.bytes.items c.put_u32.new.out.items c.rotate_right.new.self.items c.put_u8.new.out.items count (vec_len c.put_u32.new.out - 4) (omega (arith, c.len-count.ensures)) (omega (arith, c.put_u32.ensures.len, c.in_ok-reserve.ensures.len))
    (c.put_u32.ensures.written ∙ ap (λ l. l ++ unsigned 4 count) c.in_ok-reserve.ensures.items) c.rotate_right.ensures.items c.put_u8.ensures.written
