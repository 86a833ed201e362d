-- The view of an account: what it sees of a journal. Nothing else of the journal is in it.
use Rattle.std.specs.Prelude.{◌≡◌, ℕ, ◌+◌, nat_lt, ◌==◌, Bool, ◌&&◌, if◌then◌else◌, ℤ, List, [], ◌∷◌, ◌++◌, map, Option, Result, Ok, Err}
use Rattle.std.specs.List.{filter}
use Rattle.wire_records.specs.Records.{Record}
use Rattle.wire_records.specs.Versions.{IsReadAs}
use Rattle.wire_records.specs.Commands.{Request, Command, AddAsset, OpenAccount, Deposit, Withdraw, Place, CancelOrder, RunBatch, SetCredit, Answer, Plain, Batch, Pair}
use Rattle.wire_records.specs.declared.command.BodyFault.{BodyFault}
use Rattle.wire_records.specs.declared.version.Version.{Version}
use Rattle.wire_records.specs.declared.reply.Refusal.{Refusal}
use Rattle.wire_records.specs.declared.reply.Reply.{Reply}
use Rattle.wire_records.specs.declared.reply.Reply.TheVariants.{Done, Asset, Account, Order, Refused}
use Rattle.flow_accounts.specs.Balances.{account_count}
use Rattle.flow_orders.specs.Outcomes.{Fill, Clearing, Outcome, BatchRule, IsAdmissibleOutcome, Cleared, Skipped, trades_of, fill_of}
use Rattle.flow_orders.specs.Trades.{Trade, trader}
use Rattle.market_rules.specs.Market.{Market}
use Rattle.market_rules.specs.Step.{ServesRead}

-- What an account sees: an asset that is added, the entry that opens the account, what a command of its own does or which refusal
-- it gets, and of a batch its number, whether it cleared, the prices in grains, and the rates of its own orders. Deposits, withdrawals
-- and credits are of a kind, in ticks of money (None) or in units of an asset.
pub data Event : Type 0 where
  Adds : (ticker : List ℕ) → Event
  Opens : (account : ℕ) → Event
  Deposits : (kind : Option ℕ) (count : ℕ) → Event
  Withdraws : (kind : Option ℕ) (count : ℕ) → Event
  Credits : (kind : Option ℕ) (count : ℕ) → Event
  Places : (number : ℕ) (last : Option ℕ) (request : Request) → Event
  Cancels : (number : ℕ) → Event
  Refuses : (command : Command) (refusal : Refusal) → Event
  Clears : (batch : ℕ) (prices : List ℤ) (fills : List Fill) → Event
  Skips : (batch : ℕ) → Event

-- there is an account of this number; there is none of number 0
abbrev pub is_there : Market → ℕ → Bool
is_there m account = nat_lt 0 account && nat_lt account (account_count m.balances + 1)

-- the event, if it is seen, and else none
abbrev pub event_if : Bool → Event → List Event
event_if seen event = if seen then event ∷ [] else []

-- what follows from a reply: from a refusal, and else from the number that is answered, or 0 if none is
abbrev pub by_reply : {A : Type 0} → (Refusal → A) → (ℕ → A) → Reply → A
by_reply refused done Done = done 0
by_reply refused done (Asset number) = done number
by_reply refused done (Account number) = done number
by_reply refused done (Order number) = done number
by_reply refused done (Refused refusal) = refused refusal

-- what is seen of a command, if it is the account's own: its refusal, or what it does
abbrev pub seen_own : Bool → Command → (ℕ → Event) → Reply → List Event
seen_own own command done reply = event_if own (by_reply (Refuses command) done reply)

-- what an account sees of a command with a plain answer, by whether the account is there: its own commands are those that name it
abbrev pub seen_plain : ℕ → Bool → Command → Reply → List Event
seen_plain account there (AddAsset ticker) reply = by_reply (λ refusal. []) (λ number. Adds ticker ∷ []) reply
seen_plain account there OpenAccount reply = by_reply (λ refusal. []) (λ number. event_if (number == account) (Opens account)) reply
seen_plain account there (Deposit named kind count) reply = seen_own (there && (named == account)) (Deposit named kind count) (λ number. Deposits kind count) reply
seen_plain account there (Withdraw named kind count) reply = seen_own (there && (named == account)) (Withdraw named kind count) (λ number. Withdraws kind count) reply
seen_plain account there (Place last r) reply = seen_own (there && (r.account == account)) (Place last r) (λ number. Places number last r) reply
seen_plain account there (CancelOrder named order) reply = seen_own (there && (named == account)) (CancelOrder named order) (λ number. Cancels order) reply
seen_plain account there (RunBatch budget) reply = []
seen_plain account there (SetCredit named kind count) reply = seen_own (there && (named == account)) (SetCredit named kind count) (λ number. Credits kind count) reply

-- an account's own trades
abbrev pub own_trades : ℕ → List Trade → List Trade
own_trades account ts = filter (λ t. trader t == account) ts

-- the rates of an account's own orders in a batch of a market
abbrev pub own_fills : ℕ → Market → Clearing → List Fill
own_fills account m c = map fill_of (own_trades account (trades_of m.orders c.fills))

-- what an account sees of an entry, by the market before it and what its record is read as: of a batch only if the account is there, and
-- nothing if the record is no command
abbrev pub seen : ℕ → Market → Result Command BodyFault → Answer Outcome → List Event
seen account m (Ok command) (Plain reply) = seen_plain account (is_there m account) command reply
seen account m (Ok command) (Batch batch (Cleared c)) = event_if (is_there m account) (Clears batch c.prices (own_fills account m c))
seen account m (Ok command) (Batch batch (Skipped s)) = event_if (is_there m account) (Skips batch)
seen account m (Err why) answer = []

-- records of any kind, what each is read as in each version, and how a batch may end
module _ {R : Type 0} (Reads : Version → R → Result Command BodyFault → Type 0) (Rule : BatchRule) where
  -- the entries are steps from the old market to the new one, and this is what an account sees of them
  abbrev pub Shows : ℕ → Market → List (Pair R Outcome) → List Event → Market → Type 0
  Shows account old [] view new = (view ≡ []) × (new ≡ old)
  Shows account old (pair ∷ pairs) view new =
      (next : Market) × (read : Result Command BodyFault) × (rest : List Event) × Reads old.version pair.asked read
      × ServesRead Rule old read pair.answer next × Shows account next pairs rest new × (view ≡ seen account old read pair.answer ++ rest)

-- this is what an account sees of valid steps, whichever admissible outcomes their batches have
abbrev pub Sees : ℕ → Market → List (Pair Record Outcome) → List Event → Market → Type 0
Sees = Shows IsReadAs IsAdmissibleOutcome
