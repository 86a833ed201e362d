use Rattle.std.proofs.Common.{[], append-nil, sym, ◌∙◌, refl}
use Rattle.wire_records.proofs.Encoded.{head_and_body}
use Rattle.wire_records.proofs.write.put_bare.Goals as goal

pub returns : goal.returns
returns c =
    c.put_head.ensures.written ∙ sym (append-nil _) ∙ head_and_body c.args.out.now.items [] c.args.tag 0 refl
