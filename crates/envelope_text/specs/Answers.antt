-- The answer to a line that is read as an envelope.
use Rattle.std.specs.Prelude.{ℕ, List, Result, Ok, Err, ⊤}
use Rattle.envelope_text.specs.declared.envelope.Envelope.{Envelope as EnvelopeRead}
use Rattle.envelope_text.specs.declared.envelope.EnvelopeFault.{EnvelopeFault}
use Rattle.envelope_text.specs.declared.envelope.EnvelopeFault.TheVariants.{NoEnvelope, Memory}
use Rattle.envelope_text.specs.Envelopes.{Sent, IsEnvelope}

-- an envelope of the code as one of the definitions
abbrev pub envelope_in : EnvelopeRead → Sent
envelope_in e = record { from = e.from; id = e.id; text = e.text.now }

-- a line is read as this envelope, is none, or memory ran out
abbrev pub IsReadAs : List ℕ → Result EnvelopeRead EnvelopeFault → Type 0
IsReadAs line (Ok e) = IsEnvelope line (envelope_in e)
IsReadAs line (Err NoEnvelope) = (sent : Sent) → ¬ IsEnvelope line sent
IsReadAs line (Err Memory) = ⊤
