-- How lines that are served one after the other were heard.
use Rattle.std.specs.Prelude.{◌≡◌, ℕ, ◌+◌, ◌==◌, Bool, false, List, [], ◌∷◌, ◌++◌, length, ⊤}
use Rattle.std.specs.List.{filter}
use Rattle.wire_records.specs.Records.{Record}
use Rattle.wire_records.specs.Commands.{Pair}
use Rattle.flow_orders.specs.Outcomes.{Outcome, BatchRule}
use Rattle.market_rules.specs.Market.{Market}
use Rattle.answer_text.specs.declared.header.Recipient.{Recipient}
use Rattle.answer_text.specs.declared.header.Recipient.TheVariants.{Operator, Desk, All}
use Rattle.desk_messages.specs.Desks.{Desks}
use Rattle.desk_lines.specs.Hearing.{Heard, Nothing, Noise, Other, From, IsHeard}
use Rattle.desk_session.specs.Lines.{ComesOf}

-- a line was counted: it was heard as the next one of its sender
abbrev pub IsCounted : Heard → Type 0
IsCounted Nothing = ⊥
IsCounted Noise = ⊥
IsCounted (Other sender) = ⊥
IsCounted (From sender text) = ⊤

-- a sender is the one of this number, as envelopes have it: 0 is the operator's, and any other an account's
abbrev pub is_sender : ℕ → Recipient → Bool
is_sender from Operator = from == 0
is_sender from (Desk account) = from == account
is_sender from All = false

-- a line was counted for the sender of this number
abbrev pub is_counted_for : ℕ → Heard → Bool
is_counted_for from Nothing = false
is_counted_for from Noise = false
is_counted_for from (Other sender) = false
is_counted_for from (From sender text) = is_sender from sender

-- how many lines were counted for the sender of this number
abbrev pub counted_for : ℕ → List Heard → ℕ
counted_for from said = length (filter (is_counted_for from) said)

-- how a batch may end
module _ (Rule : BatchRule) where
  -- Lines add these entries and are answered with these texts, one after the other, and each was heard so, given what was counted before it.
  abbrev pub AreHeardAs : Market → Desks → (count : ℕ) → List (List ℕ) → List Heard → List (Pair Record Outcome) → List (List ℕ) → Market → Desks → Type 0
  AreHeardAs old d count [] said pairs texts new later = (said ≡ []) × (pairs ≡ []) × (texts ≡ []) × (new ≡ old) × (later ≡ d)
  AreHeardAs old d count (line ∷ lines) said pairs texts new later =
      (heard : Heard) × (first : List (Pair Record Outcome)) × (own : List (List ℕ)) × (next : Market) × (between : Desks)
      × (rest : List Heard) × (more : List (Pair Record Outcome)) × (others : List (List ℕ))
      × IsHeard d line heard × ComesOf Rule old d count heard first own next between
      × AreHeardAs next between (count + length first) lines rest more others new later
      × (said ≡ heard ∷ rest) × (pairs ≡ first ++ more) × (texts ≡ own ++ others)
