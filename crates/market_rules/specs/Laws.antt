-- What holds of steps, journals and markets.
use Rattle.std.specs.Prelude.{◌≡◌, ◌≢◌, ◌⊎◌, ℕ, ◌+◌, ◌*◌, ◌^◌, ◌<◌, ◌≤◌, ℤ, pos, ◌+ℤ◌, ◌<ℤ◌, ◌≤ℤ◌, Bool, Option, List, ◌∷◌, ◌++◌, length, map, All, Contains}
use Rattle.std.specs.List.{filter}
use Rattle.weight_rows.specs.Rows.{most_entries}
use Rattle.ticker_table.specs.Tickers.{ticker_limit}
use Rattle.flow_accounts.specs.Balances.{Balances, IsAccount, IsKind, balance_of, credit_of, credit_in}
use Rattle.fill_caps.specs.Covers.{CoversNeeds}
use Rattle.flow_accounts.specs.Lawful.{most_assets}
use Rattle.wire_records.specs.Records.{Record}
use Rattle.wire_records.specs.Commands.{Command, RunBatch, Answer, Plain, Batch, Pair}
use Rattle.wire_records.specs.Versions.{IsReadAs}
use Rattle.wire_records.specs.declared.version.Version.{Version}
use Rattle.wire_records.specs.declared.version.Version.TheVariants.{One}
use Rattle.wire_records.specs.declared.limits.Limits.{Limits}
use Rattle.wire_records.specs.Limits.{limits_of}
use Rattle.wire_records.specs.declared.reply.Refusal.{Refusal}
use Rattle.wire_records.specs.declared.reply.Reply.TheVariants.{Refused}
use Rattle.flow_orders.specs.Orders.{Order, most_orders, most_ticks}
use Rattle.flow_orders.specs.Outcomes.{Outcome, Fill, Clearing, Cleared, Skipping, Skipped, dual_of, trades_of, IsAdmissibleOutcome}
use Rattle.flow_orders.specs.Trades.{staying, going_on}
use Rattle.flow_orders.specs.Duals.{movement_of}
use Rattle.flow_orders.specs.Welfare.{IsOptimalWithin}
use Rattle.flow_orders.specs.Residuals.{most_prices}
use Rattle.market_rules.specs.Market.{Market, most_batches, empty_market, IsConsistent, parts_of, start_prices, held_balance, free_balance, usable_balance}
use Rattle.market_rules.specs.Step.{Serves, ServesPlain, after_batch}
use Rattle.market_rules.specs.Journal.{Step, Follows, Places, fills_of}
use Rattle.market_rules.specs.Deposits.{AddTogether, HoldsDeposits}
use Rattle.market_rules.specs.Promises.{KeepsPromises, HoldTheSame}

-- the entries lead from one market to another by steps, with any admissible outcomes of batches
abbrev pub Leads : Market → List (Pair Record Outcome) → Market → Type 0
Leads = Follows IsReadAs IsAdmissibleOutcome

-- the old market, the record and the answer determine the new market
abbrev pub MarketIsDetermined : Type 0
MarketIsDetermined = (old : Market) (asked : Record) (answer : Answer Outcome) (m n : Market)
    → Step IsReadAs IsAdmissibleOutcome old asked answer m → Step IsReadAs IsAdmissibleOutcome old asked answer n → m ≡ n

-- valid entries determine the market after them
abbrev pub JournalsDetermineTheMarket : Type 0
JournalsDetermineTheMarket = (old : Market) (pairs : List (Pair Record Outcome)) (m n : Market)
    → Leads old pairs m → Leads old pairs n → m ≡ n

-- a command that is refused, a batch included, has no other answer, and changes nothing
abbrev pub OneRefusal : Type 0
OneRefusal = (old : Market) (command : Command) (refusal : Refusal) (answer : Answer Outcome) (m n : Market)
    → Serves IsAdmissibleOutcome old command (Plain (Refused refusal)) m → Serves IsAdmissibleOutcome old command answer n
    → (answer ≡ Plain (Refused refusal)) × (m ≡ old) × (n ≡ old)

-- a command that is no batch has one answer, even if any admissible outcome of a batch is accepted
abbrev pub PlainCommandsHaveOneAnswer : Type 0
PlainCommandsHaveOneAnswer = (old : Market) (command : Command) (a b : Answer Outcome) (m n : Market)
    → ((budget : ℕ) → ¬ (command ≡ RunBatch budget))
    → Serves IsAdmissibleOutcome old command a m → Serves IsAdmissibleOutcome old command b n → (a ≡ b) × (m ≡ n)

-- what is served without a batch is served alike if any admissible outcome of a batch is accepted, and a command that is no batch is
-- served in no other way
abbrev pub PlainCommandsHoldNoBatch : Type 0
PlainCommandsHoldNoBatch = (old : Market) (command : Command) (answer : Answer Outcome) (new : Market)
    → (ServesPlain old command answer new → Serves IsAdmissibleOutcome old command answer new)
    × (((budget : ℕ) → ¬ (command ≡ RunBatch budget)) → Serves IsAdmissibleOutcome old command answer new → ServesPlain old command answer new)

-- the empty market of each version is consistent, and every step keeps a market consistent, and its version
abbrev pub StepsKeepConsistency : Type 0
StepsKeepConsistency = ((version : Version) → IsConsistent (empty_market version)) × ((old : Market) (asked : Record) (answer : Answer Outcome) (new : Market)
    → IsConsistent old → Step IsReadAs IsAdmissibleOutcome old asked answer new → IsConsistent new × (new.version ≡ old.version))

-- from a consistent market on, what is held of money and of each asset changes by the accepted deposits less the accepted withdrawals; in
-- a journal, which begins with the empty market, it is exactly that
pub record HeldIsDeposited : Type 0 where
  pub change : (old : Market) (pairs : List (Pair Record Outcome)) (new : Market) (kind : Option ℕ) → IsConsistent old → Leads old pairs new
      → (added : ℤ) × AddTogether (IsReadAs old.version) kind pairs added × (held_balance new kind ≡ held_balance old kind +ℤ added)
  pub all : (version : Version) (pairs : List (Pair Record Outcome)) (m : Market) (kind : Option ℕ) → Leads (empty_market version) pairs m
      → AddTogether (IsReadAs version) kind pairs (held_balance m kind)

-- steps from a consistent market lead to a consistent one
abbrev pub JournalsStayConsistent : Type 0
JournalsStayConsistent = (start : Market) (pairs : List (Pair Record Outcome)) (m : Market) → IsConsistent start → Leads start pairs m → IsConsistent m

-- steps from a consistent market lead to one that holds more by the accepted deposits less the accepted withdrawals
abbrev pub JournalsHoldDeposits : Type 0
JournalsHoldDeposits = (start : Market) (pairs : List (Pair Record Outcome)) (m : Market)
    → IsConsistent start → Leads start pairs m → HoldsDeposits IsReadAs start pairs m

-- a batch changes nothing that is held in total
abbrev pub BatchesKeepTotals : Type 0
BatchesKeepTotals = (old : Market) (command : Command) (number : ℕ) (outcome : Outcome) (new : Market)
    → IsConsistent old → Serves IsAdmissibleOutcome old command (Batch number outcome) new
    → HoldTheSame old new

-- a batch that is skipped is counted, the orders whose last batch it was leave, and nothing else changes
abbrev pub SkipsOnlyEndOrders : Type 0
SkipsOnlyEndOrders = (old : Market) (command : Command) (number : ℕ) (skipping : Skipping) (new : Market)
    → Serves IsAdmissibleOutcome old command (Batch number (Skipped skipping)) new
    → new ≡ record old { orders = going_on (old.batches + 1) old.orders; batches = old.batches + 1 }

-- an order trades in no batch after its last one, and isn't live after it; a batch that is skipped ends no order with another last
-- batch, or with none
pub record OrdersEndInTime : Type 0 where
  pub before : (old : Market) (command : Command) (number : ℕ) (outcome : Outcome) (new : Market) → IsConsistent old
      → Serves IsAdmissibleOutcome old command (Batch number outcome) new → All (λ (o : Order). (o.last ≡ 0) ⊎ (number ≤ o.last)) old.orders
  pub after : (old : Market) (command : Command) (number : ℕ) (outcome : Outcome) (new : Market) → IsConsistent old
      → Serves IsAdmissibleOutcome old command (Batch number outcome) new → All (λ (o : Order). (o.last ≡ 0) ⊎ (number < o.last)) new.orders
  pub stays : (old : Market) (command : Command) (number : ℕ) (s : Skipping) (new : Market) (o : Order)
      → Serves IsAdmissibleOutcome old command (Batch number (Skipped s)) new → Contains old.orders o → o.last ≢ number → Contains new.orders o

-- no order has a last batch and no account has credit, so no batch is an order's last one, an order may need exactly what is free,
-- and no account owes anything, of money and of each asset
pub record VersionOneHasNeither (m : Market) : Type 0 where
  pub lasts : All (λ (o : Order). o.last ≡ 0) m.orders
  pub goes_on : (batch : ℕ) → 1 ≤ batch → going_on batch m.orders ≡ m.orders
  pub credit : (account : ℕ) (kind : Option ℕ) → credit_in (credit_of m.balances account) kind ≡ 0
  pub usable : (account : ℕ) (kind : Option ℕ) → usable_balance m account kind ≡ free_balance m account kind
  pub no_debt : (account : ℕ) (kind : Option ℕ) → IsAccount m.balances account → IsKind m.balances kind → pos 0 ≤ℤ balance_of m.balances account kind

-- a consistent market of version One has neither last batches nor credit
abbrev pub VersionOneIsAsBefore : Type 0
VersionOneIsAsBefore = (m : Market) → IsConsistent m → m.version ≡ One → VersionOneHasNeither m

-- after a batch in a consistent market of version One, only orders that are filled to their caps have left; a skip is only counted
pub record BatchesOfVersionOne : Type 0 where
  pub cleared : (old : Market) (c : Clearing) → IsConsistent old → old.version ≡ One
      → (after_batch old (Cleared c)).orders ≡ staying (trades_of old.orders c.fills)
  pub skipped : (old : Market) (s : Skipping) → IsConsistent old → old.version ≡ One → after_batch old (Skipped s) ≡ record old { batches = old.batches + 1 }

-- from a consistent market on, no order's fills pass the cap that it was placed with, and those of an order that is live at the start,
-- with what was filled of it before, don't pass its cap
pub record FillsKeepCaps : Type 0 where
  pub placed : (old : Market) (before after : List (Pair Record Outcome)) (pair : Pair Record Outcome) (m : Market) (number cap : ℕ) → IsConsistent old
      → Leads old (before ++ pair ∷ after) m → Places (IsReadAs old.version) number cap pair → fills_of number (before ++ pair ∷ after) ≤ cap
  pub live : (old : Market) (pairs : List (Pair Record Outcome)) (m : Market) (o : Order) → IsConsistent old → Contains old.orders o
      → Leads old pairs m → o.filled + fills_of o.number pairs ≤ o.cap

-- no balanced rates have more welfare than the rates of a cleared batch and its published gap together
abbrev pub ClearedBatchesAreOptimal : Type 0
ClearedBatchesAreOptimal = (old : Market) (command : Command) (number : ℕ) (c : Clearing) (new : Market)
    → IsConsistent old → Serves IsAdmissibleOutcome old command (Batch number (Cleared c)) new
    → IsOptimalWithin c.gap old.orders (map (λ (f : Fill). f.rate) c.fills)

-- the published dual values of a skipped batch fall by more than its movement less the number of orders, and by more than a grain for
-- each move less the number of orders
pub record SkipsLowerTheDual : Type 0 where
  pub movement : (old : Market) (command : Command) (number : ℕ) (s : Skipping) (new : Market)
      → IsConsistent old → Serves IsAdmissibleOutcome old command (Batch number (Skipped s)) new
      → (s.end_dual +ℤ pos (movement_of (parts_of old.version) old.orders (start_prices old) s.trace)) <ℤ (s.start_dual +ℤ pos (length old.orders))
  pub moves : (old : Market) (command : Command) (number : ℕ) (s : Skipping) (new : Market)
      → IsConsistent old → Serves IsAdmissibleOutcome old command (Batch number (Skipped s)) new
      → (s.end_dual +ℤ pos (length s.trace)) <ℤ (s.start_dual +ℤ pos (length old.orders))

-- a batch clears if its budget is above the dual value at its start prices plus the number of orders
abbrev pub LargeBudgetsClear : Type 0
LargeBudgetsClear = (old : Market) (budget number : ℕ) (outcome : Outcome) (new : Market)
    → IsConsistent old → dual_of old.orders (start_prices old) + length old.orders < budget
    → Serves IsAdmissibleOutcome old (RunBatch budget) (Batch number outcome) new → (c : Clearing) × (outcome ≡ Cleared c)

-- two sequences of steps compose to one, and a sequence splits at any entry
pub record SequencesCompose : Type 0 where
  pub joined : (old mid new : Market) (pairs more : List (Pair Record Outcome)) → Leads old pairs mid → Leads mid more new → Leads old (pairs ++ more) new
  pub apart : (old new : Market) (pairs more : List (Pair Record Outcome)) → Leads old (pairs ++ more) new
      → (mid : Market) × Leads old pairs mid × Leads mid more new

-- what a version allows is within the greatest limits, for which all widths are made
pub record IsWithinGreatest (limits : Limits) : Type 0 where
  pub assets : limits.assets ≤ most_assets
  pub legs : limits.legs ≤ most_entries
  pub orders : limits.orders ≤ most_orders
  pub batches : limits.batches ≤ most_batches

-- limits that two crates define, each under its own name, agree: as many tickers and prices as assets, and the range of limit prices; and
-- those of each version are within them
pub record LimitsAgree : Type 0 where
  pub assets : ticker_limit ≡ most_assets
  pub prices : most_prices ≡ most_assets
  pub ticks : 2 ^ 32 * most_ticks ≡ 2 ^ 60
  pub versions : (version : Version) → IsWithinGreatest (limits_of version)

-- a step gives out at most one order number, even if any admissible outcome of a batch is accepted
abbrev pub LegalStepsNumberOne : Type 0
LegalStepsNumberOne = (old : Market) (asked : Record) (answer : Answer Outcome) (new : Market)
    → Step IsReadAs IsAdmissibleOutcome old asked answer new → new.next_order ≤ old.next_order + 1

-- steps from a consistent market keep the promises of the exchange, and so every valid journal does
abbrev pub LegalJournalsKeepPromises : Type 0
LegalJournalsKeepPromises = (start : Market) (pairs : List (Pair Record Outcome)) (m : Market)
    → IsConsistent start → Leads start pairs m → KeepsPromises IsReadAs start pairs

-- if each account, with its credit, covers what its orders need, it covers what the remaining ones need, whichever orders leave
abbrev pub OrdersMayLeave : Type 0
OrdersMayLeave = (b : Balances) (stays : Order → Bool) (orders : List Order) → CoversNeeds b orders → CoversNeeds b (filter stays orders)
