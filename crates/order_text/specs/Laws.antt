-- What holds of lines. The module `laws` has a function for each of these.
use Rattle.std.specs.Prelude.{◌≡◌, ◌≢◌, ◌≤◌, ℕ, List, length, map, All, Result, None}
use Rattle.serde_json.specs.Data.{Data}
use Rattle.wire_records.specs.Commands.{Request, Command, Place}
use Rattle.wire_records.specs.declared.version.Version.{Version}
use Rattle.ticker_table.specs.Tickers.{AreTickers}
use Rattle.wire_records.specs.CommandRecords.{IsCommand, HasShortRow}
use Rattle.wire_records.specs.Versions.{IsOfVersion}
use Rattle.order_text.specs.declared.line.LineRead.{LineRead}
use Rattle.order_text.specs.declared.line.LineFault.{LineFault}
use Rattle.curve_ladder.specs.Segments.{curve_asked}
use Rattle.curve_ladder.specs.Demands.{AskTogether}
use Rattle.order_text.specs.Lines.{AsksLadder, Asked, commands_of, LineAsks, Leave, Says}
use Rattle.order_text.specs.Answers.{IsLineRead, may_run_out}

-- a line asks for one thing at most, and there is one table of tickers after it
abbrev pub OneSaying : Type 0
OneSaying =
    (version : Version) (tickers : List (List ℕ)) (line : List ℕ) (a b : Asked) (after other : List (List ℕ)) → Says version tickers line a after → Says version tickers line b other
    → (a ≡ b) × (after ≡ other)

-- the weight vectors of the commands that a line asks for fit their records
abbrev pub RowsAreShort : Type 0
RowsAreShort =
    (version : Version) (tickers : List (List ℕ)) (line : List ℕ) (asked : Asked) → AreTickers tickers → LineAsks version tickers line asked → All HasShortRow (commands_of asked)

-- the commands that a line asks for have fields within their widths, and are of the version
abbrev pub CommandsFit : Type 0
CommandsFit =
    (version : Version) (tickers : List (List ℕ)) (line : List ℕ) (asked : Asked) → AreTickers tickers → LineAsks version tickers line asked
    → All IsCommand (commands_of asked) × All (IsOfVersion version) (commands_of asked)

-- there is at most one table of tickers after given commands
abbrev pub OneTable : Type 0
OneTable = (version : Version) (tickers : List (List ℕ)) (commands : List Command) (after other : List (List ℕ)) → Leave version tickers commands after → Leave version tickers commands other → after ≡ other

-- unless memory runs out, a line has at most one answer, and there is one table of tickers after it
abbrev pub OneAnswer : Type 0
OneAnswer =
    (version : Version) (tickers : List (List ℕ)) (line : List ℕ) (a b : Result LineRead LineFault) (after other : List (List ℕ)) → a ≢ may_run_out → b ≢ may_run_out
    → IsLineRead version tickers line after a → IsLineRead version tickers line other b → (a ≡ b) × (after ≡ other)

-- no line is without an answer other than out of memory
abbrev pub NoneIsUnanswered : Type 0
NoneIsUnanswered =
    (version : Version) (tickers : List (List ℕ)) (line : List ℕ)
    → ¬ ((after : List (List ℕ)) (result : Result LineRead LineFault) → result ≢ may_run_out → ¬ IsLineRead version tickers line after result)

-- the orders of a ladder that an object asks for ask together for what the ladder does: at every price their demands, before any
-- fill, add up to its value, and at most one of them isn't a whole number
abbrev pub LadderAsksTogether : Type 0
LadderAsksTogether =
    (tickers : List (List ℕ)) (d : Data) (requests : List Request) → (asks : AsksLadder tickers d (map (Place None) requests)) → AskTogether asks.ladder (map curve_asked requests)

-- a line asks for no more commands than it has bytes
abbrev pub NoMoreThanBytes : Type 0
NoMoreThanBytes =
    (version : Version) (tickers : List (List ℕ)) (line : List ℕ) (asked : Asked) → LineAsks version tickers line asked → length (commands_of asked) ≤ length line
