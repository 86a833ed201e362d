-- What is promised of the entries that a subcommand reads or writes, by what its source holds.
use Rattle.std.specs.Prelude.{ℕ, List, take, Option, IfSome}
use Rattle.wire_records.specs.Records.{Record}
use Rattle.wire_records.specs.Commands.{Pair}
use Rattle.wire_records.specs.Versions.{IsReadAs}
use Rattle.wire_records.specs.Reading.{StartsWith}
use Rattle.wire_records.specs.declared.version.Version.{Version}
use Rattle.wire_records.specs.declared.version.Version.TheVariants.{One}
use Rattle.wire_records.specs.Formats.{commands}
use Rattle.flow_orders.specs.Outcomes.{Outcome}
use Rattle.market_rules.specs.Market.{Market, empty_market}
use Rattle.market_rules.specs.Deposits.{HoldsDeposits}
use Rattle.market_rules.specs.Promises.{KeepsPromises, ClearNear}
use Rattle.market_history.specs.Histories.{market_of}
use Rattle.exchange_session.specs.Journals.{Journals}
use Rattle.session_resume.specs.declared.first.Origin.{Origin}
use Rattle.session_resume.specs.Firsts.{Whole, IsFirst}
use Rattle.session_resume.specs.Continuing.{Continues}
use Rattle.sample_summary.specs.Summary.{Summarizes}
use Rattle.flow_exchange.specs.declared.form.Form.{Form}
use Rattle.flow_exchange.specs.declared.form.Form.TheVariants.{Run, Audit, Explain, Report, Encode, Sample, Statement, Checkpoint, Resume}
use Rattle.flow_exchange.specs.HistoryFiles.{History, IsHistory}

-- ---- what is read, whoever wrote it

-- The valid entries of a history keep the promises of the exchange, those on the orders of the market that it begins in too, and the market at
-- its end holds more than that one by the accepted deposits less the accepted withdrawals.
pub record IsKeptFrom (history : History) : Type 0 where
  pub deposits : HoldsDeposits IsReadAs (market_of history.start) history.legal history.market
  pub keeps : KeepsPromises IsReadAs (market_of history.start) history.legal

-- the history in a source of known content, if there is one, keeps the promises
abbrev pub KeepsAll : ℕ → Option (List ℕ) → Type 0
KeepsAll limit told = IfSome told (λ bytes. (history : History) → IsHistory limit bytes history → IsKeptFrom history)

-- ---- what is written

-- Entries that the program writes lead from a market to another one, which holds more by the accepted deposits less the accepted
-- withdrawals. They keep the promises of the exchange, those on the orders of the first market too, and what the canonical rule promises
-- besides.
pub record AreCanonicallyKept (old : Market) (pairs : List (Pair Record Outcome)) (new : Market) : Type 0 where
  pub deposits : HoldsDeposits IsReadAs old pairs new
  pub keeps : KeepsPromises IsReadAs old pairs
  pub near : ClearNear IsReadAs old pairs

-- the journal of the records that a source begins with, all of them or some, is kept so
abbrev pub KeepsRuns : ℕ → Option (List ℕ) → Type 0
KeepsRuns limit told =
    IfSome told (λ bytes. (version : Version) (records : List Record) (market : Market) (text : List ℕ) → StartsWith commands limit bytes version records
    → (writes : Journals version records market text) → AreCanonicallyKept (empty_market version) writes.pairs market)

-- the entries of new records are kept so, from the market on that the journal or the checkpoint at the start of a source leads to
abbrev pub KeepsResumed : ℕ → Option (List ℕ) → Type 0
KeepsResumed limit told =
    IfSome told (λ bytes. (origin : Origin) (old : Market) (place : ℕ) (rest : List ℕ) (records : List Record) (new : Market) (text : List ℕ) → IsFirst (take limit bytes) (Whole origin old place rest)
    → (writes : Continues old records new text) → AreCanonicallyKept old writes.pairs new)

-- the journal of a sample is kept so
abbrev pub KeepsSample : (number orders : ℕ) → Type 0
KeepsSample number orders = (line : List ℕ) (sum : Summarizes number orders line) → AreCanonicallyKept (empty_market One) sum.writes.pairs sum.market

-- ---- by the form of the arguments

-- what a form promises of the entries that it reads or writes; an encoding has none
abbrev pub Promises : Form → ℕ → Option (List ℕ) → Type 0
Promises Run limit told = KeepsRuns limit told
Promises Audit limit told = KeepsAll limit told
Promises Explain limit told = KeepsAll limit told
Promises Report limit told = KeepsAll limit told
Promises (Encode version) limit told = Unit {0}
Promises (Sample number orders) limit told = KeepsSample number orders
Promises (Statement number) limit told = KeepsAll limit told
Promises Checkpoint limit told = KeepsAll limit told
Promises Resume limit told = KeepsResumed limit told
