use Rattle.std.proofs.Common.{◌++◌, length-append, ap, ◌∙◌}
use Rattle.std.proofs.lemmas.List.{append_assoc}
use Rattle.wire_fields.specs.Numbers.{unsigned}
use Rattle.wire_fields.proofs.Encoding.{length-unsigned}
use Rattle.wire_records.specs.Records.{head}
use Rattle.wire_records.proofs.Encoded.{head_and_body}
use Rattle.wire_records.proofs.write.put_units.Goals as goal

pub returns : goal.returns
returns c =
    let account = unsigned 4 c.args.account in
    let asset = unsigned 2 c.args.asset in
    let units = unsigned 8 c.args.units in
    let old = c.args.out.now.items ++ head c.args.tag 14 in
    c.put_u64.ensures.written ∙ ap (λ xs. xs ++ units) (c.put_u16.ensures.written ∙ ap (λ xs. xs ++ asset) (c.put_u32.ensures.written ∙ ap (λ xs. xs ++ account) c.put_head.ensures.written))
    ∙ append_assoc (old ++ account) asset units ∙ append_assoc old account (asset ++ units)
    ∙ head_and_body c.args.out.now.items (account ++ (asset ++ units)) c.args.tag 14 (simp (length-append, length-unsigned))
