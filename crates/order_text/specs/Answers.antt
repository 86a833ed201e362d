-- The answer to a line.
use Rattle.std.specs.Prelude.{◌≡◌, ℕ, List, map, All, Result, Ok, Err}
use Rattle.wire_records.specs.CommandRecords.{HasShortRow}
use Rattle.wire_records.specs.Views.{command_in}
use Rattle.wire_records.specs.declared.version.Version.{Version}
use Rattle.order_text.specs.declared.line.LineRead.{LineRead}
use Rattle.order_text.specs.declared.line.LineRead.TheVariants.{Blank, Asks, Many}
use Rattle.order_text.specs.declared.line.LineFault.{LineFault}
use Rattle.order_text.specs.declared.line.LineFault.TheVariants.{NoCommand, Memory}
use Rattle.order_text.specs.Lines.{IsBlank, Alone, OfLadder, LineAsks, Says, SaysNothing}

-- The answer to a line in a version, given the tickers of the lines before, with the tickers after it. By the laws a line has one
-- answer unless memory runs out, which it can't on a blank line.
abbrev pub IsLineRead : Version → List (List ℕ) → List ℕ → List (List ℕ) → Result LineRead LineFault → Type 0
IsLineRead version tickers line after (Ok Blank) = IsBlank line × (after ≡ tickers)
IsLineRead version tickers line after (Ok (Asks command)) = Says version tickers line (Alone (command_in command)) after
IsLineRead version tickers line after (Ok (Many commands)) = Says version tickers line (OfLadder (map command_in commands)) after
IsLineRead version tickers line after (Err NoCommand) = SaysNothing version tickers line × (after ≡ tickers)
IsLineRead version tickers line after (Err Memory) = (¬ IsBlank line) × (after ≡ tickers)

-- the answer to a line in a version, given the tickers of a table, without those after it
abbrev pub IsAskedAs : Version → List (List ℕ) → List ℕ → Result LineRead LineFault → Type 0
IsAskedAs version tickers line (Ok Blank) = IsBlank line
IsAskedAs version tickers line (Ok (Asks command)) = LineAsks version tickers line (Alone (command_in command))
IsAskedAs version tickers line (Ok (Many commands)) = LineAsks version tickers line (OfLadder (map command_in commands))
IsAskedAs version tickers line (Err NoCommand) = SaysNothing version tickers line
IsAskedAs version tickers line (Err Memory) = ¬ IsBlank line

-- the weight vectors of what was read, if there are any, fit their records
abbrev pub IsShort : LineRead → Type 0
IsShort Blank = Unit {0}
IsShort (Asks command) = HasShortRow (command_in command)
IsShort (Many commands) = All (λ command. HasShortRow (command_in command)) commands

-- the answer if memory runs out
abbrev pub may_run_out : Result LineRead LineFault
may_run_out = Err Memory
