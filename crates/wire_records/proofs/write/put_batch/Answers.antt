use Rattle.std.proofs.Common.{◌++◌, ap, ◌∙◌, sym}
use Rattle.wire_fields.specs.Numbers.{unsigned}
use Rattle.wire_fields.proofs.Encoding.{length-unsigned}
use Rattle.wire_records.proofs.Encoded.{head_and_body}
use Rattle.wire_records.proofs.write.put_batch.Goals as goal

pub returns : goal.returns
returns c =
    let budget = unsigned 4 c.args.budget in
    c.put_u32.ensures.written ∙ ap (λ xs. xs ++ budget) c.put_head.ensures.written
    ∙ head_and_body c.args.out.now.items budget 9 4 (sym (length-unsigned 4 c.args.budget))
