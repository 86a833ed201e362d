use Rattle.std.proofs.Common.{◌≡◌, map, ap, sym, ◌∙◌, rules}
use Rattle.std.proofs.lemmas.List.{length-map}
use Rattle.json.specs.Find.{as_object}
use Rattle.json.specs.Value.{value_view, members_view}
use Rattle.json.proofs.Trees.{view-Object}
use Rattle.envelope_text.proofs.Members.{keys_are}
use Rattle.envelope_text.proofs.envelope.count_of.Goals as goal

pub returns-in-Object-clause-some : goal.returns-in-Object-clause-some
returns-in-Object-clause-some c = (
  members_view c.in-Object.members.items,
  ap (λ v. as_object (value_view v)) c.in-Object.is ∙ ap as_object (view-Object c.in-Object.members),
  keys_are (map (λ m. (m.0, value_view m.1)) c.in-Object.members.items) ∙ length-map c.in-Object.members.items (λ m. (m.0, value_view m.1)) ∙ search (rules) ∙ sym c.len.ensures,
)
