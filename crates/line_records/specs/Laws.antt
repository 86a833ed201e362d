-- What holds of the lines of a text, whether it has more or not. The module `laws` has a function for each of these.
use Rattle.std.specs.Prelude.{◌≡◌, ℕ, List, ◌++◌, Option, All}
use Rattle.wire_records.specs.Commands.{Command}
use Rattle.wire_records.specs.CommandRecords.{IsCommand, HasShortRow}
use Rattle.wire_records.specs.Versions.{IsOfVersion}
use Rattle.wire_records.specs.declared.version.Version.{Version}
use Rattle.ticker_table.specs.Tickers.{AreTickers}
use Rattle.order_text.specs.Lines.{Leave}
use Rattle.line_records.specs.Lines.{AreLines, Say, AreRead, AreFirst}

-- bytes have at most one list of lines
abbrev pub OneSplit : Type 0 → Type 0
OneSplit More = (bytes : List ℕ) (lines other : List (List ℕ)) → AreLines More bytes lines → AreLines More bytes other → lines ≡ other

-- from some known tickers on there is one first line that is no command, or none, and the lines before it ask for one list of commands
abbrev pub OneReading : Version → List (List ℕ) → Type 0 → Type 0
OneReading version known More =
    (bytes : List ℕ) (bad other : Option ℕ) (commands others : List Command) → AreRead version known More bytes bad commands → AreRead version known More bytes other others
    → (bad ≡ other) × (commands ≡ others)

-- no text is without a reading
abbrev pub NoneIsUnread : Version → List (List ℕ) → Type 0 → Type 0
NoneIsUnread version known More = (bytes : List ℕ) → ¬ ((bad : Option ℕ) (commands : List Command) → ¬ AreRead version known More bytes bad commands)

-- the commands that the first lines ask for are a prefix of those that are read
abbrev pub FirstIsAPrefix : Version → List (List ℕ) → Type 0 → Type 0
FirstIsAPrefix version known More =
    (bytes : List ℕ) (bad : Option ℕ) (first commands : List Command) → AreFirst version known More bytes first → AreRead version known More bytes bad commands
    → (rest : List Command) × (commands ≡ first ++ rest)

-- the tickers after lines are those after the commands that the lines ask for
abbrev pub LinesLeave : Version → Type 0
LinesLeave version =
    (lines : List (List ℕ)) (commands : List Command) (tickers after : List (List ℕ)) → Say version tickers lines commands after → Leave version tickers commands after

-- the commands that lines ask for fit their records and are of the version: fields are within their widths, and weight vectors
-- aren't too long
abbrev pub CommandsFit : Version → Type 0
CommandsFit version =
    (known lines : List (List ℕ)) (commands : List Command) (tickers : List (List ℕ)) → AreTickers known → Say version known lines commands tickers
    → All IsCommand commands × All HasShortRow commands × All (IsOfVersion version) commands
