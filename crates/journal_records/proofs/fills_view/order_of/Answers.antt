use Rattle.std.proofs.Common.{◌++◌, ◌∙◌}
use Rattle.wire_fields.specs.Numbers.{unsigned}
use Rattle.journal_records.proofs.Fills.{apart}
use Rattle.journal_records.proofs.fills_view.order_of.Goals as goal

pub returns : goal.returns
returns c = λ f rest fits same.
    (c.take_u64.ensures.again f.order (unsigned 4 f.rate ++ rest) fits.0 (c.new.ensures ∙ apart f c.args.bytes.now rest same)).0
