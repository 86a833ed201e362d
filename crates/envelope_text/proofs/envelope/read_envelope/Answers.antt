use Rattle.std.proofs.Common.{ap, sym, ◌∙◌, subst}
use Rattle.json.specs.Json.{document}
use Rattle.json.specs.Value.{value_view}
use Rattle.envelope_text.specs.Envelopes.{HasMembers}
use Rattle.envelope_text.proofs.Members.{values}
use Rattle.envelope_text.proofs.envelope.read_envelope.Goals as goal

pub returns : goal.returns
returns c = λ sent is.
    c.in-None.ensures.none sent (subst (λ v. HasMembers v sent) (values is.value (value_view c.in-Ok-parse_strict.value) (sym is.reads ∙ ap document (sym c.in-Ok.ensures.cases.0) ∙ c.in-Ok-parse_strict.ensures.ok)) is.members)
