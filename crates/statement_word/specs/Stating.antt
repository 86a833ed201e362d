-- `flow statement`, as a subcommand over the entries of a history.
use Rattle.std.specs.Prelude.{◌≡◌, ◌+◌, ℕ, List, [], Result}
use Rattle.wire_records.specs.Records.{Record}
use Rattle.wire_records.specs.Commands.{Command, Answer}
use Rattle.wire_records.specs.Versions.{IsReadAs}
use Rattle.wire_records.specs.declared.command.BodyFault.{BodyFault}
use Rattle.wire_records.specs.declared.version.Version.{Version}
use Rattle.flow_accounts.specs.Balances.{IsAccount}
use Rattle.flow_orders.specs.Outcomes.{Outcome}
use Rattle.journal_records.specs.Replies.{EncodesAnswer}
use Rattle.market_rules.specs.Market.{Market}
use Rattle.statement_rules.specs.Views.{seen}
use Rattle.statement_rules.specs.Holdings.{held_in}
use Rattle.statement_rules.specs.Statements.{lines_from, end_lines, carried_lines}
use Rattle.account_statement.specs.Telling.{AllocatesCopy}
use Rattle.word_driver.specs.Word.{Word}
use Rattle.journal_words.specs.Watching.{Sight, Legal, Illegal, End, Watch, Watched, over_pairs}
use Rattle.history_words.specs.Histories.{Beginning}
use Rattle.statement_word.specs.declared.no_statement.NoStatement.{NoStatement}
use Rattle.statement_word.specs.declared.no_statement.NoStatement.TheVariants.{Rejected, NoAccount}

-- whose statement it is, and the market before the next entry, which says what is seen of it
pub record Stated : Type 0 where
  pub account : ℕ
  pub market : Market

-- The text is the lines of what an account sees of an entry in a journal of a version, by the market before the entry.
pub record TellsOwn (account : ℕ) (version : Version) (old : Market) (pair : Record × Record) (text : List ℕ) : Type 0 where
  pub read : Result Command BodyFault
  pub answer : Answer Outcome
  pub reads : IsReadAs version pair.0 read
  pub encoded : EncodesAnswer pair.1 answer
  pub lines : text ≡ lines_from (held_in account old) (seen account old read answer)

-- it may run out of memory for the lines of an entry, and for the last lines
abbrev pub AllocatesLines : ℕ → Market → Sight → Type 0
AllocatesLines account market (Legal pair) = Unit {0}
AllocatesLines account market (Illegal pair) = ⊥
AllocatesLines account market End = IsAccount market.balances account

-- A statement writes the lines of what its account sees of each entry. It stops at the first invalid entry, with its number, counted
-- from 1. At the end it writes the last lines, or stops if there is no such account.
abbrev pub stating : Watch Stated NoStatement
stating = record {
  Sees = λ market before pair old new text. (new ≡ record { account = old.account; market = market }) × TellsOwn old.account market.version old.market pair text;
  Rejects = λ market before pair stated why text. (why ≡ Rejected (before + 1)) × (text ≡ []);
  Closes = λ market pairs stated text. IsAccount market.balances stated.account × (text ≡ end_lines (held_in stated.account market));
  Stops = λ market pairs stated why text. (¬ IsAccount market.balances stated.account) × (why ≡ NoAccount stated.account) × (text ≡ []);
  Allocates = λ market pairs sight stated. AllocatesLines stated.account market sight;
}

-- `flow statement`
abbrev pub statement : Word (Record × Record) (Watched Stated) NoStatement
statement = over_pairs stating

-- how it begins in the market that a history begins in: with the lines that are carried forward, for which what the account has there is
-- copied
abbrev pub statement_begins : ℕ → Beginning Stated
statement_begins account = record { starts = λ market. record { account = account; market = market }; opens = carried_lines account; Allocates = AllocatesCopy account }
