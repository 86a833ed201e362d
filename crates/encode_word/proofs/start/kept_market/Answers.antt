use Rattle.std.proofs.Common.{sym, ◌∙◌}
use Rattle.std.proofs.lemmas.Bool.{false≢true}
use Rattle.encode_word.proofs.Starting.{other_version}
use Rattle.encode_word.proofs.start.kept_market.Goals as goal

pub returns-clause-fault : goal.returns-clause-fault
returns-clause-fault c = (
  c.requires.begins,
  other_version c.args.version c.args.bytes.now c.in-Ok.found.0 c.in-Ok.found.1 c.in-Ok.ensures.0 (λ same. false≢true (sym c.if-is_of.false ∙ c.is_of.ensures.1 same)),
)
