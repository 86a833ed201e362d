-- What the lines of an input are answered with, and which entries they add to a journal.
use Rattle.std.specs.Prelude.{◌≡◌, ◌⊎◌, ◌+◌, ℕ, List, [], ◌∷◌, ◌++◌, length, codes, decimal}
use Rattle.wire_records.specs.Records.{Record}
use Rattle.wire_records.specs.Commands.{Command, Pair}
use Rattle.wire_records.specs.CommandRecords.{record_of}
use Rattle.wire_records.specs.Versions.{IsReadAs}
use Rattle.flow_orders.specs.Outcomes.{Outcome}
use Rattle.canonical_rule.specs.Canonical.{IsCanonicalOutcome}
use Rattle.journal_records.specs.Formats.{records_of}
use Rattle.market_rules.specs.Market.{Market}
use Rattle.market_rules.specs.Journal.{Step}
use Rattle.order_text.specs.Lines.{IsBlank, Asked, commands_of, LineAsks, SaysNothing}
use Rattle.batch_report.specs.Reports.{IsReport}
use Rattle.input_lines.specs.Long.{IsLong}

-- The most entries that a line adds: those of a ladder.
abbrev pub most_entries : ℕ
most_entries = 32

-- a line has no answer: it is blank, and not too long
abbrev pub HasNoAnswer : List ℕ → Type 0
HasNoAnswer line = (¬ IsLong line) × IsBlank line

-- memory may run out at a line: it is neither too long nor blank, so it is read
abbrev pub MayRunOut : List ℕ → Type 0
MayRunOut line = (¬ IsLong line) × (¬ IsBlank line)

-- a line is no command in a market: it is too long, whatever it is, or neither blank nor asks for a command of the market's version
-- with the market's tickers
abbrev pub IsNoCommand : Market → List ℕ → Type 0
IsNoCommand market line = IsLong line ⊎ SaysNothing market.version market.tickers line

-- a line asks in a market for a command of its version, or for those of a ladder, with its tickers
abbrev pub AsksIn : Market → List ℕ → Asked → Type 0
AsksIn market line asked = (¬ IsLong line) × LineAsks market.version market.tickers line asked

-- the text of a line that is no command, by its number
abbrev pub no_command_text : ℕ → List ℕ
no_command_text number = codes "line " ++ decimal number ++ codes " is no command\n"

-- The entries answer these commands, one after the other, by the canonical rule, from a market on; and the texts are those of the entries, each
-- under its number in a journal that has `count` entries before.
abbrev pub AreAnswered : Market → ℕ → List Command → List (Pair Record Outcome) → List (List ℕ) → Market → Type 0
AreAnswered old count [] pairs texts new = (pairs ≡ []) × (texts ≡ []) × (new ≡ old)
AreAnswered old count (command ∷ commands) pairs texts new =
    (pair : Pair Record Outcome) × (text : List ℕ) × (next : Market) × (more : List (Pair Record Outcome)) × (others : List (List ℕ))
    × (pair.asked ≡ record_of command) × Step IsReadAs IsCanonicalOutcome old pair.asked pair.answer next × IsReport next (count + 1) (records_of pair) text
    × AreAnswered next (count + 1) commands more others new × (pairs ≡ pair ∷ more) × (texts ≡ text ∷ others)

-- The line of this number adds these entries, and is answered with these texts: none, that it is no command, or the texts of its commands.
abbrev pub IsLineAnswered : Market → ℕ → ℕ → List ℕ → List (Pair Record Outcome) → List (List ℕ) → Market → Type 0
IsLineAnswered old count number line pairs texts new =
    (HasNoAnswer line × (pairs ≡ []) × (texts ≡ []) × (new ≡ old))
    ⊎ (IsNoCommand old line × (pairs ≡ []) × (texts ≡ no_command_text number ∷ []) × (new ≡ old))
    ⊎ ((asked : Asked) × AsksIn old line asked × AreAnswered old count (commands_of asked) pairs texts new)

-- the lines, of which the first has this number, add these entries and are answered with these texts, one after the other
abbrev pub AreLinesAnswered : Market → ℕ → ℕ → List (List ℕ) → List (Pair Record Outcome) → List (List ℕ) → Market → Type 0
AreLinesAnswered old count number [] pairs texts new = (pairs ≡ []) × (texts ≡ []) × (new ≡ old)
AreLinesAnswered old count number (line ∷ lines) pairs texts new =
    (first : List (Pair Record Outcome)) × (own : List (List ℕ)) × (next : Market) × (more : List (Pair Record Outcome)) × (others : List (List ℕ))
    × IsLineAnswered old count number line first own next × AreLinesAnswered next (count + length first) (number + 1) lines more others new
    × (pairs ≡ first ++ more) × (texts ≡ own ++ others)

-- Of the line of this number nothing was answered, or that it is no command, or the first of its commands were, or all.
abbrev pub IsLineBegun : Market → ℕ → ℕ → List ℕ → List (Pair Record Outcome) → List (List ℕ) → Market → Type 0
IsLineBegun old count number line pairs texts new =
    ((pairs ≡ []) × (texts ≡ []) × (new ≡ old))
    ⊎ (IsNoCommand old line × (pairs ≡ []) × (texts ≡ no_command_text number ∷ []) × (new ≡ old))
    ⊎ ((asked : Asked) × (first : List Command) × (rest : List Command) × AsksIn old line asked × (commands_of asked ≡ first ++ rest) × AreAnswered old count first pairs texts new)

-- These lines, counted from 1, were answered, and perhaps the first commands of the line after them: they add these entries and are answered with these
-- texts.
pub record AreAnsweredInto (old : Market) (count : ℕ) (read : List (List ℕ)) (line : List ℕ) (pairs : List (Pair Record Outcome)) (texts : List (List ℕ)) (new : Market) : Type 0 where
  pub done : List (Pair Record Outcome)
  pub own : List (List ℕ)
  pub next : Market
  pub answered : AreLinesAnswered old count 1 read done own next
  pub more : List (Pair Record Outcome)
  pub others : List (List ℕ)
  pub begun : IsLineBegun next (count + length done) (length read + 1) line more others new
  pub pairs_are : pairs ≡ done ++ more
  pub texts_are : texts ≡ own ++ others

-- The first of these lines add these entries and are answered with these texts: some of them, and perhaps the first commands of the next.
abbrev pub AreFirstAnswered : Market → ℕ → List (List ℕ) → List (Pair Record Outcome) → List (List ℕ) → Market → Type 0
AreFirstAnswered old count lines pairs texts new =
    AreLinesAnswered old count 1 lines pairs texts new
    ⊎ ((read : List (List ℕ)) × (line : List ℕ) × (left : List (List ℕ)) × (lines ≡ read ++ line ∷ left) × AreAnsweredInto old count read line pairs texts new)
