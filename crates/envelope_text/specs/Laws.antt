-- What holds of envelopes. The module `laws` has a function for each of these.
use Rattle.std.specs.Prelude.{◌≡◌, ℕ, List}
use Rattle.envelope_text.specs.Envelopes.{Sent, IsEnvelope}

-- a line is one envelope at most
abbrev pub OneEnvelope : Type 0
OneEnvelope = (line : List ℕ) (a b : Sent) → IsEnvelope line a → IsEnvelope line b → a ≡ b
