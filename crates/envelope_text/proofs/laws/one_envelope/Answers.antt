use Rattle.envelope_text.proofs.OneEnvelope.{one_envelope}
use Rattle.envelope_text.proofs.laws.one_envelope.Goals as goal

pub returns : goal.returns
returns c = one_envelope
