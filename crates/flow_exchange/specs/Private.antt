-- Definitions that only private functions use: what a form does, and the status of a subcommand's own reason to stop.
use Rattle.std.specs.Prelude.{◌≡◌, ℕ, List, [], ◌∷◌}
use Rattle.flow_io.specs.Changes.{Change}
use Rattle.word_driver.specs.declared.fault.Never.{Never}
use Rattle.history_words.specs.declared.stop.HistoryStop.{HistoryStop}
use Rattle.history_words.specs.declared.stop.HistoryStop.TheVariants as stop
use Rattle.statement_word.specs.declared.no_statement.NoStatement.{NoStatement}
use Rattle.statement_word.specs.declared.no_statement.NoStatement.TheVariants as why
use Rattle.exit_status.specs.declared.status.Status.{Status}
use Rattle.exit_status.specs.declared.status.Status.TheVariants as status
use Rattle.flow_exchange.specs.declared.form.Form.{Form}
use Rattle.flow_exchange.specs.Program.{Does}
use Rattle.flow_exchange.specs.Allocating.{MayRunOut}

-- What a form does, and where it may run out of memory.
pub record FormServes (form : Form) (limit : ℕ) (status : Status) (source out : Change) : Type 0 where
  pub does : Does form limit status source out
  pub allocates : MayRunOut form limit status source out

-- the status of a subcommand over a history that stopped: at the first invalid entry, with its number, or because the history begins with the
-- magic of a checkpoint but with none of a consistent market
abbrev pub rejected : HistoryStop ℕ → Status
rejected (stop.AtPairs number) = status.Rejected number
rejected stop.NoCheckpoint = status.BadCheckpoint

-- the status of a statement that stopped: at the first invalid entry, because there is no account of its number, or because the history
-- begins as a checkpoint but with none of a consistent market
abbrev pub no_statement : HistoryStop NoStatement → Status
no_statement (stop.AtPairs (why.Rejected number)) = status.Rejected number
no_statement (stop.AtPairs (why.NoAccount number)) = status.NoAccount number
no_statement stop.NoCheckpoint = status.BadCheckpoint

-- the status of a subcommand that doesn't stop by itself
abbrev pub no_reason : Never → Status
no_reason never = elim never [ ]

-- two arguments, of which this is the first
abbrev pub AreTwo : List (List ℕ) → List ℕ → Type 0
AreTwo words first = (second : List ℕ) × (words ≡ first ∷ second ∷ [])

-- three arguments, of which this is the first
abbrev pub AreThree : List (List ℕ) → List ℕ → Type 0
AreThree words first = (second : List ℕ) × (third : List ℕ) × (words ≡ first ∷ second ∷ third ∷ [])
