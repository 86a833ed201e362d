use Rattle.json.specs.Value.{value_view}
use Rattle.envelope_text.proofs.Members.{whole_if_some, none_if_none}
use Rattle.envelope_text.proofs.envelope.whole_of.Goals as goal

pub returns-clause-some : goal.returns-clause-some
returns-clause-some c = whole_if_some (value_view c.args.value.now) c.as_u64.result c.as_u64.ensures

pub returns-clause-none : goal.returns-clause-none
returns-clause-none c = none_if_none (value_view c.args.value.now) c.as_u64.result c.as_u64.ensures
