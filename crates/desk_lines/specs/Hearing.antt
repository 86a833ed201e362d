-- Who sent a line, and whether it counts.
use Rattle.std.specs.Prelude.{◌≡◌, ◌⊎◌, ℕ, ◌+◌, ◌≤◌, List, length, Some, None}
use Rattle.order_text.specs.Lines.{IsBlank}
use Rattle.envelope_text.specs.Envelopes.{Sent, IsEnvelope}
use Rattle.answer_text.specs.declared.header.Recipient.{Recipient}
use Rattle.desk_messages.specs.Desks.{Desks, recipient_of, tally_of, IsThere}

-- the most bytes of a line before its line feed
abbrev pub most_envelope : ℕ
most_envelope = 262144

-- a line says nothing: it is blank
abbrev pub IsSilent : List ℕ → Type 0
IsSilent line = (length line ≤ most_envelope) × IsBlank line

-- a line is an envelope of the operator or of an account that is there
pub record IsSent (d : Desks) (line : List ℕ) (sent : Sent) : Type 0 where
  pub short : length line ≤ most_envelope
  pub envelope : IsEnvelope line sent
  pub there : IsThere d (recipient_of sent.from)

-- an envelope is the next of its sender: it has the next number, or none
abbrev pub IsNext : Desks → Sent → Type 0
IsNext d sent = (sent.id ≡ None) ⊎ (sent.id ≡ Some ((tally_of d (recipient_of sent.from)).lines + 1))

-- What a line is: blank, nothing that counts for a sender, one with another number than its sender's next, or the next one of its sender, with
-- its text.
pub data Heard : Type 0 where
  Nothing : Heard
  Noise : Heard
  Other : (sender : Recipient) → Heard
  From : (sender : Recipient) (text : List ℕ) → Heard

-- a line is this, given what was counted
abbrev pub IsHeard : Desks → List ℕ → Heard → Type 0
IsHeard d line Nothing = IsSilent line
IsHeard d line Noise = (¬ IsSilent line) × ((sent : Sent) → ¬ IsSent d line sent)
IsHeard d line (Other sender) = (sent : Sent) × IsSent d line sent × (sender ≡ recipient_of sent.from) × (¬ IsNext d sent)
IsHeard d line (From sender text) = (sent : Sent) × IsSent d line sent × (sender ≡ recipient_of sent.from) × (text ≡ sent.text) × IsNext d sent
