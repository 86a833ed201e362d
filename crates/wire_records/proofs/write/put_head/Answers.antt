use Rattle.std.proofs.Common.{◌++◌, ap, ◌∙◌, append_assoc}
use Rattle.wire_fields.specs.Numbers.{unsigned}
use Rattle.wire_records.specs.Records.{head}
use Rattle.wire_records.proofs.write.put_head.Goals as goal

pub returns-clause-written : goal.returns-clause-written
unfolding head
returns-clause-written c =
    c.put_u32.ensures.written ∙ ap (λ xs. xs ++ unsigned 4 c.args.length) c.put_u8.ensures.written
    ∙ append_assoc c.args.out.now.items (unsigned 1 c.args.tag) (unsigned 4 c.args.length)
