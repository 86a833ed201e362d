-- What holds of answers, read as lines. The root module has a function for each of these laws.
use Rattle.std.specs.Prelude.{◌≡◌, ◌⊎◌, ℕ, List, [], ◌∷◌, ◌++◌, codes, All}
use Rattle.pair_text.specs.Texts.{◌then◌}
use Rattle.wire_records.specs.Commands.{Command, AddAsset, Answer}
use Rattle.wire_records.specs.CommandRecords.{record_of}
use Rattle.wire_records.specs.Versions.{IsReadAs}
use Rattle.wire_records.specs.declared.version.Version.{Version}
use Rattle.ticker_table.specs.Tickers.{AreTickers}
use Rattle.flow_orders.specs.Outcomes.{Outcome, BatchRule}
use Rattle.market_rules.specs.Market.{Market}
use Rattle.market_rules.specs.Journal.{Step}
use Rattle.order_text.specs.Lines.{Asked, Alone, commands_of, LineAsks}
use Rattle.answer_text.specs.Answers.{command_members}

-- an object that has the members of a command in the answer to its sender, and no others
abbrev pub echo_of : List (List ℕ) → Command → List ℕ
echo_of tickers command = codes "{" then command_members tickers command then codes "}"

-- a line asks for this command, and for nothing else
abbrev pub AsksForJust : Version → List (List ℕ) → List ℕ → Command → Type 0
AsksForJust version tickers line command = LineAsks version tickers line (Alone command) × ((asked : Asked) → LineAsks version tickers line asked → asked ≡ Alone command)

-- tickers as they may be after a command: those before it, followed by the one that it names if it adds an asset
abbrev pub MayBeAfter : List (List ℕ) → Command → List (List ℕ) → Type 0
MayBeAfter tickers command after = (after ≡ tickers) ⊎ ((ticker : List ℕ) × (command ≡ AddAsset ticker) × (after ≡ tickers ++ ticker ∷ []))

-- The echo is the command: for each command that a line asks for, the command's members in the answer, which are written with the tickers after
-- the command, are read as a line that asks for just this command, with the tickers before the command and with those after it.
abbrev pub TheEchoIsTheCommand : Type 0
TheEchoIsTheCommand =
    (version : Version) (tickers : List (List ℕ)) (line : List ℕ) (asked : Asked) → AreTickers tickers → LineAsks version tickers line asked
    → All (λ command. (after : List (List ℕ)) → MayBeAfter tickers command after → AsksForJust version tickers (echo_of after command) command × AsksForJust version after (echo_of after command) command) (commands_of asked)

-- The echo of a command that led from one market to another: it is written with the tickers of the later one, and asks for just the command in
-- both.
pub record IsEchoed (old new : Market) (command : Command) : Type 0 where
  pub before : AsksForJust old.version old.tickers (echo_of new.tickers command) command
  pub after : AsksForJust new.version new.tickers (echo_of new.tickers command) command

-- each of these commands is echoed, if they are served one after the other, from a market on
abbrev pub AreEchoed : BatchRule → Market → List Command → Type 0
AreEchoed Rule old [] = Unit {0}
AreEchoed Rule old (command ∷ commands) =
    (answer : Answer Outcome) (new : Market) → Step IsReadAs Rule old (record_of command) answer new → IsEchoed old new command × AreEchoed Rule new commands

-- the same in a market: the commands that a line asks for are echoed when they are served
abbrev pub TheEchoInTheMarket : BatchRule → Type 0
TheEchoInTheMarket Rule =
    (market : Market) (line : List ℕ) (asked : Asked) → AreTickers market.tickers → LineAsks market.version market.tickers line asked → AreEchoed Rule market (commands_of asked)
