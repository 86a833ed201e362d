-- Definitions of the code's parts: what a statement at work keeps.
use Rattle.std.specs.Prelude.{◌≡◌, ◌≤◌, ◌^◌, ℕ, List, Option, Some, None}
use Rattle.wire_records.specs.Records.{Record}
use Rattle.market_rules.specs.Market.{Market}
use Rattle.batch_audit.specs.Legal.{IsLegalPair}
use Rattle.journal_words.specs.Watching.{Watched}
use Rattle.account_statement.specs.Telling.{Statement, Agrees}
use Rattle.statement_rules.specs.Views.{seen}
use Rattle.statement_rules.specs.Holdings.{held_in}
use Rattle.statement_rules.specs.Statements.{lines_from}
use Rattle.statement_word.specs.Stating.{Stated}

-- it is the statement of the account of this number, and agrees with the market; there is none only if no account can have the number
abbrev pub IsOf : ℕ → Market → Option Statement → Type 0
IsOf number m kept = ((s : Statement) → kept ≡ Some s → (s.account ≡ number) × Agrees m s) × (kept ≡ None → 2 ^ 32 ≤ number)

-- A valid entry was taken: what is kept is of the market after it, and the text is the lines of what the account sees of it.
pub record HasTold (number : ℕ) (m : Market) (pair : Record × Record) (new : Option Statement) (text : List ℕ) (next : Market) (legal : IsLegalPair m pair next) : Type 0 where
  pub is_of : IsOf number next new
  pub lines : text ≡ lines_from (held_in number m) (seen number m legal.step.read legal.answer)

-- a statement at work, as a state of its subcommand
abbrev pub at_work : ℕ → Market → ℕ → Watched Stated
at_work number m pairs = record { market = m; pairs = pairs; seen = record { account = number; market = m } }
