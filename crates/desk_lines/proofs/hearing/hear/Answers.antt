use Rattle.std.proofs.Common.{sym, ◌∙◌}
use Rattle.std.proofs.lemmas.Bool.{false≢true}
use Rattle.envelope_text.specs.Envelopes.{Sent, IsEnvelope}
use Rattle.desk_lines.proofs.hearing.hear.Goals as goal

pub returns-in-Err-NoEnvelope-clause-heard : goal.returns-in-Err-NoEnvelope-clause-heard
returns-in-Err-NoEnvelope-clause-heard c =
    let none : (sent : Sent) → ¬ IsEnvelope c.args.line.now sent = rw c.in-Err-NoEnvelope.field-0-is at c.in-Err-NoEnvelope.ensures in
    (λ silent. false≢true (sym c.if-is_blank.false ∙ c.is_blank.ensures.1 silent.1), λ sent is. none sent is.envelope)
