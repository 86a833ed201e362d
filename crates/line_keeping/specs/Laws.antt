-- What holds of lines that are answered, whatever the code.
use Rattle.std.specs.Prelude.{◌≡◌, ℕ, ◌+◌, ◌*◌, ◌^◌, ◌<◌, List, ◌++◌, length, All, map}
use Rattle.wire_records.specs.Records.{Record}
use Rattle.wire_records.specs.Commands.{Command, Pair}
use Rattle.wire_records.specs.CommandRecords.{record_of}
use Rattle.wire_records.specs.Versions.{IsReadAs}
use Rattle.word_driver.specs.Laws.{IsNotDenied}
use Rattle.flow_orders.specs.Outcomes.{Outcome}
use Rattle.canonical_rule.specs.Canonical.{IsCanonicalOutcome}
use Rattle.journal_records.specs.Pairs.{IsPair}
use Rattle.market_rules.specs.Market.{Market, IsConsistent}
use Rattle.market_rules.specs.Journal.{IsAnswered}
use Rattle.market_history.specs.Histories.{Start}
use Rattle.line_records.specs.Lines.{Say}
use Rattle.input_lines.specs.Long.{IsLong}
use Rattle.line_keeping.specs.Answers.{most_entries, AreLinesAnswered}
use Rattle.journal_keeping.specs.Openings.{OpensAs}
use Rattle.line_keeping.specs.Inputs.{bytes_before, BeginsNew, line_starts, HasLinesWithin}

-- an input has at most one list of lines, and at most one thing before them: the same bytes, with which a new file begins in one way
abbrev pub OneInput : Type 0
OneInput = (limit : ℕ) (bytes : List ℕ) (before other : Start) (lines others : List (List ℕ)) → HasLinesWithin limit bytes before lines → HasLinesWithin limit bytes other others
    → (bytes_before before ≡ bytes_before other) × (BeginsNew before → BeginsNew other → before ≡ other) × (lines ≡ others)

-- lines add one list of entries, are answered in one way, and lead to one market
abbrev pub OneAnswer : Type 0
OneAnswer = (old : Market) (count number : ℕ) (lines : List (List ℕ)) (pairs others : List (Pair Record Outcome)) (texts words : List (List ℕ)) (new other : Market)
    → AreLinesAnswered old count number lines pairs texts new → AreLinesAnswered old count number lines others words other
    → (pairs ≡ others) × (texts ≡ words) × (new ≡ other)

-- A disk with these bytes and an input lead to this, if all lines are answered: how the journal begins, all its entries, the answers, and the market after
-- them.
pub record LeadsTo (limit : ℕ) (held bytes : List ℕ) (begin : Start) (pairs : List (Pair Record Outcome)) (texts : List (List ℕ)) (new : Market) : Type 0 where
  pub old : List (Pair Record Outcome)
  pub market : Market
  pub before : Start
  pub opens : OpensAs line_starts held begin old market before
  pub lines : List (List ℕ)
  pub are : HasLinesWithin limit bytes before lines
  pub added : List (Pair Record Outcome)
  pub answered : AreLinesAnswered market (length old) 1 lines added texts new
  pub all : pairs ≡ old ++ added

-- a disk and an input lead to one journal and one output
abbrev pub OneOutput : Type 0
OneOutput = (limit : ℕ) (held bytes : List ℕ) (begin other : Start) (pairs others : List (Pair Record Outcome)) (texts words : List (List ℕ)) (new last : Market)
    → LeadsTo limit held bytes begin pairs texts new → LeadsTo limit held bytes other others words last → (begin ≡ other) × (pairs ≡ others) × (texts ≡ words) × (new ≡ last)

-- Lines are answered in some way, whatever they are, and their entries fit the widths of a journal, stated as not denied. A line asks for at most
-- `most_entries` commands, those of a ladder, and the numbers of as many orders have to fit.
abbrev pub SomeAnswer : Type 0
SomeAnswer = (old : Market) (count number : ℕ) (lines : List (List ℕ)) → IsConsistent old → old.next_order + most_entries * length lines < 2 ^ 64
    → IsNotDenied ((pairs : List (Pair Record Outcome)) × (texts : List (List ℕ)) × (new : Market) × AreLinesAnswered old count number lines pairs texts new × All IsPair pairs)

-- If each line is blank or a command by the tickers of the lines before, as `encode` reads them from the market's tickers on, and none is too long, the
-- entries answer the records of these commands, as `keep` answers them.
abbrev pub AnswersAsKept : Type 0
AnswersAsKept = (old : Market) (count number : ℕ) (lines : List (List ℕ)) (commands : List Command) (tickers : List (List ℕ)) (pairs : List (Pair Record Outcome)) (texts : List (List ℕ)) (new : Market)
    → IsConsistent old → All (λ line. ¬ IsLong line) lines → Say old.version old.tickers lines commands tickers → AreLinesAnswered old count number lines pairs texts new
    → IsAnswered IsReadAs IsCanonicalOutcome old (map record_of commands) pairs new × (tickers ≡ new.tickers)
