-- `flow statement NUMBER`: which arguments ask for it, and what it makes of the bytes of its source.
use Rattle.std.specs.Prelude.{◌≡◌, ◌⊎◌, ◌<◌, ◌^◌, ℕ, List, [], ◌∷◌, codes, decimal, if◌then◌else◌}
use Rattle.wire_records.specs.Records.{Record}
use Rattle.wire_records.specs.Commands.{Pair}
use Rattle.wire_records.specs.Reading.{End}
use Rattle.flow_accounts.specs.Balances.{IsAccount}
use Rattle.flow_orders.specs.Outcomes.{Outcome}
use Rattle.market_rules.specs.Market.{Market}
use Rattle.market_rules.specs.Allocating.{RecordMayAllocate}
use Rattle.market_history.specs.Histories.{Start, market_of}
use Rattle.batch_audit.specs.Legal.{IsLegalPair}
use Rattle.statement_rules.specs.Views.{Event, Sees, is_there}
use Rattle.statement_rules.specs.Statements.{text_from, statement_from}
use Rattle.exit_status.specs.declared.status.Status.{Status}
use Rattle.exit_status.specs.declared.status.Status.TheVariants.{Done, NoAccount}
use Rattle.flow_exchange.specs.JournalFiles.{if_whole}
use Rattle.flow_exchange.specs.HistoryFiles.{History, IsHistory, history_status, HistoryTo, IsAtPairOf, LacksStart}

-- The arguments are `statement` and a number of 64 bits in plain decimal digits.
pub record AskStatement (words : List (List ℕ)) (number : ℕ) : Type 0 where
  pub are : words ≡ codes "statement" ∷ decimal number ∷ []
  pub number_fits : number < 2 ^ 64

-- the status: that of the history, unless all was done and the market at its end has no account of the number
abbrev pub statement_status : ℕ → ℕ → History → Status
statement_status account limit history =
    if_whole history.following history.ending (if is_there history.market account then Done else NoAccount account) (history_status limit history)

-- what is written, by what the account sees of the valid entries. If all was done: the whole statement that begins in the history's first
-- market, or nothing if there is no such account at its end. Else: the lines that are carried forward and those of the view, without the
-- last lines.
abbrev pub statement_text : ℕ → History → List Event → List ℕ
statement_text account history view =
    if_whole history.following history.ending (if is_there history.market account then statement_from account (market_of history.start) view else [])
    (text_from account (market_of history.start) view)

-- The text is what is written of what the account sees of the valid entries.
pub record States (account : ℕ) (history : History) (text : List ℕ) : Type 0 where
  pub view : List Event
  pub sees : Sees account (market_of history.start) history.legal view history.market
  pub writes : text ≡ statement_text account history view

-- the first `limit` bytes result in this status and this text
abbrev pub StatesTo : ℕ → ℕ → List ℕ → Status → List ℕ → Type 0
StatesTo account limit = HistoryTo (statement_status account limit) (States account) limit

-- The text is the lines that are carried forward and those of what the account sees of these entries, which lead from the market that a
-- history begins in to this one.
pub record AreSeen (account : ℕ) (start : Start) (legal : List (Pair Record Outcome)) (market : Market) (text : List ℕ) : Type 0 where
  pub view : List Event
  pub sees : Sees account (market_of start) legal view market
  pub writes : text ≡ text_from account (market_of start) view

-- all entries of the history are these valid ones, and the account is there at its end
pub record IsAtEnd (account limit : ℕ) (bytes : List ℕ) (start : Start) (legal : List (Pair Record Outcome)) (market : Market) : Type 0 where
  pub is : IsHistory limit bytes (record { start = start; legal = legal; market = market; following = []; ending = End })
  pub there : IsAccount market.balances account

-- where memory may run out: at a checkpoint, for its market, a copy of what the account has there or the lines that are carried forward; at
-- an entry whose command may run out of it; at a valid entry, for its lines; or at the end, for the last lines
abbrev pub StatesShort : ℕ → ℕ → List ℕ → List ℕ → Type 0
StatesShort account limit bytes text =
    LacksStart limit bytes text
    ⊎ ((start : Start) × (legal : List (Pair Record Outcome)) × (market : Market) × (next : Record × Record) × IsAtPairOf limit bytes start legal market next
    × (RecordMayAllocate market next.0 ⊎ ((new : Market) × IsLegalPair market next new)) × AreSeen account start legal market text)
    ⊎ ((start : Start) × (legal : List (Pair Record Outcome)) × (market : Market) × IsAtEnd account limit bytes start legal market × AreSeen account start legal market text)
