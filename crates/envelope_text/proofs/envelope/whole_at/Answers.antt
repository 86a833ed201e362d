use Rattle.std.proofs.Common.{sym}
use Rattle.json.specs.Value.{value_view}
use Rattle.envelope_text.proofs.Members.{none_at}
use Rattle.envelope_text.proofs.envelope.whole_at.Goals as goal

pub returns-clause-none : goal.returns-clause-none
returns-clause-none c = none_at (value_view c.args.value.now) (value_view c.in_ok-get.field-0.now) c.args.key.now c.whole_of.result (sym c.in_ok-get.ensures) c.whole_of.ensures.none
