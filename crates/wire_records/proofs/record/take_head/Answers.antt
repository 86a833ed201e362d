use Rattle.std.proofs.Common.{◌++◌, ap, ◌∙◌, sym, append_assoc}
use Rattle.wire_fields.specs.Numbers.{unsigned}
use Rattle.wire_records.specs.Records.{head}
use Rattle.wire_records.proofs.record.take_head.Goals as goal

pub returns-clause-stated : goal.returns-clause-stated
unfolding head
returns-clause-stated c =
    c.in_ok-tag.ensures.found ∙ ap (λ xs. unsigned 1 c.in_ok-tag.tag ++ xs) c.in_ok-length.ensures.found
    ∙ sym (append_assoc (unsigned 1 c.in_ok-tag.tag) (unsigned 4 c.in_ok-length.length) c.take_u32.new.self)
