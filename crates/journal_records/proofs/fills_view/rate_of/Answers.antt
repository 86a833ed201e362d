use Rattle.std.proofs.Common.{◌++◌, ◌∙◌}
use Rattle.wire_fields.specs.Numbers.{unsigned}
use Rattle.wire_fields.proofs.Encoding.{length-unsigned}
use Rattle.journal_records.proofs.Fills.{apart}
use Rattle.journal_records.proofs.fills_view.rate_of.Goals as goal

pub returns-in_err-take : goal.returns-in_err-take
returns-in_err-take c = λ f rest fits same.
    absurd ((c.in_err-take.ensures.again (unsigned 8 f.order) (unsigned 4 f.rate ++ rest) (length-unsigned 8 f.order) (c.new-cursor.ensures ∙ apart f c.args.bytes.now rest same)).0)

pub returns : goal.returns
returns c = λ f rest fits same.
    let order = c.in_ok-take.ensures.again (unsigned 8 f.order) (unsigned 4 f.rate ++ rest) (length-unsigned 8 f.order) (c.new-cursor.ensures ∙ apart f c.args.bytes.now rest same) in
    (c.take_u32.ensures.again f.rate rest fits.1 order.1).0
