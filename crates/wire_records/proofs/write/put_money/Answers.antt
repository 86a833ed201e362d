use Rattle.std.proofs.Common.{◌++◌, length-append, ap, ◌∙◌}
use Rattle.std.proofs.lemmas.List.{append_assoc}
use Rattle.wire_fields.specs.Numbers.{unsigned}
use Rattle.wire_fields.proofs.Encoding.{length-unsigned}
use Rattle.wire_records.proofs.Encoded.{head_and_body}
use Rattle.wire_records.proofs.write.put_money.Goals as goal

pub returns : goal.returns
returns c =
    let account = unsigned 4 c.args.account in
    let ticks = unsigned 8 c.args.ticks in
    c.put_u64.ensures.written ∙ ap (λ xs. xs ++ ticks) (c.put_u32.ensures.written ∙ ap (λ xs. xs ++ account) c.put_head.ensures.written)
    ∙ append_assoc _ account ticks
    ∙ head_and_body c.args.out.now.items (account ++ ticks) c.args.tag 12 (simp (length-append, length-unsigned))
