-- Whose a line is, and which entries an account's lines may add.
use Rattle.std.specs.Prelude.{◌≡◌, ◌≢◌, ◌⊎◌, ℕ, List, Contains, Option, Ok}
use Rattle.wire_records.specs.Records.{Record}
use Rattle.wire_records.specs.Commands.{Request, Command, Place, CancelOrder, Pair}
use Rattle.wire_records.specs.Versions.{IsReadAs}
use Rattle.wire_records.specs.declared.version.Version.{Version}
use Rattle.flow_orders.specs.Outcomes.{Outcome}
use Rattle.envelope_text.specs.Envelopes.{Sent, IsEnvelope}

-- a line is an envelope of the sender of this number: 0 is the operator's, and any other an account's
abbrev pub IsLineOf : ℕ → List ℕ → Type 0
IsLineOf from line = (sent : Sent) × IsEnvelope line sent × (sent.from ≡ from)

-- a line isn't the operator's
abbrev pub IsNotOperators : List ℕ → Type 0
IsNotOperators line = ¬ IsLineOf 0 line

-- a line is neither the operator's nor the account's own
abbrev pub IsOfOthers : ℕ → List ℕ → Type 0
IsOfOthers account line = (¬ IsLineOf 0 line) × (¬ IsLineOf account line)

-- a command places an order of the account
abbrev pub IsPlacementOf : ℕ → Command → Type 0
IsPlacementOf account command = (last : Option ℕ) × (request : Request) × (command ≡ Place last request) × (request.account ≡ account)

-- a command cancels an order of the account
abbrev pub IsCancelOf : ℕ → Command → Type 0
IsCancelOf account command = (order : ℕ) × (command ≡ CancelOrder account order)

-- an entry is a placement or a cancel of the account: its record is read as one
abbrev pub IsOwnEntry : Version → ℕ → Pair Record Outcome → Type 0
IsOwnEntry version account pair = (command : Command) × IsReadAs version pair.asked (Ok command) × (IsPlacementOf account command ⊎ IsCancelOf account command)

-- One of these lines asks for an entry: one of the operator's, or, if the entry is a placement or a cancel of an account, one of this account's own.
abbrev pub IsAskedFor : Version → List (List ℕ) → Pair Record Outcome → Type 0
IsAskedFor version lines pair =
    (line : List ℕ) × Contains lines line × (IsLineOf 0 line ⊎ ((account : ℕ) × (account ≢ 0) × IsLineOf account line × IsOwnEntry version account pair))
