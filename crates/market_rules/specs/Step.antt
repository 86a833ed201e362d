-- One step of the market: the first refusal of a command, or the answer to the accepted command and the market after it. Which
-- outcomes a batch may have is a parameter, a rule: any admissible outcome, or the program's canonical one.
use Rattle.std.specs.Prelude.{◌≡◌, ℕ, ◌+◌, ◌<◌, ◌≤◌, pos, neg_ℤ, ◌+ℤ◌, ◌≤ℤ◌, ◌<ℤ◌, [], ◌∷◌, ◌++◌, length, ◌⊎◌, Option, Some, None, unwrap_or, IfSome, MatchOption, Result, Ok, Err, All, Contains}
use Rattle.wire_records.specs.Limits.{limits_of}
use Rattle.wire_records.specs.Commands.{Request, Command, AddAsset, OpenAccount, Deposit, Withdraw, Place, CancelOrder, RunBatch, SetCredit, Answer, Plain, Batch}
use Rattle.wire_records.specs.declared.reply.Reply.TheVariants as reply
use Rattle.wire_records.specs.declared.reply.Refusal.{Refusal}
use Rattle.wire_records.specs.declared.reply.Refusal.TheVariants.{AssetLimit, TickerTaken, BadTicker, AccountLimit, NoAccount, NoAsset, ZeroAmount, TotalLimit, NotFree, BadLimits, BadRate, BadCap, BadRow, OrderLimit, NoOrder, BadBudget, BatchLimit, BadLast, CreditInUse, CreditLimit}
use Rattle.wire_records.specs.declared.reply.Refusal.TheVariants as refusals
use Rattle.wire_records.specs.declared.command.BodyFault.{BodyFault}
use Rattle.wire_records.specs.declared.command.BodyFault.TheVariants as fault
use Rattle.ticker_table.specs.Tickers.{IsTicker}
use Rattle.demand_curve.specs.Demand.{most_rate}
use Rattle.flow_accounts.specs.Balances.{IsAccount, IsAsset, IsKind, account_count, total_of, value_of, with_asset, add_asset, open_account, change_balance, set_credit}
use Rattle.flow_accounts.specs.Lawful.{most_accounts, most_credit, total_limit}
use Rattle.flow_orders.specs.Orders.{Order, most_cap, AreLimits, IsFrom1To, price_of_ticks, need_of}
use Rattle.flow_orders.specs.Outcomes.{Outcome, BatchRule, Cleared, Skipped, trades_of, most_budget}
use Rattle.flow_orders.specs.Trades.{staying, going_on}
use Rattle.order_book.specs.Book.{HasOrder, without}
use Rattle.market_rules.specs.Market.{Market, IsRowOf, start_prices, free_balance, usable_balance, search_of}
use Rattle.fill_caps.specs.Settlement.{settled_balances, settled_exchange}

-- ---- refusals

infixr 1 ◌when◌else◌ ◌unless◌else◌
-- this refusal is the first if its condition holds, and otherwise the ones after it decide
abbrev pub ◌when◌else◌ : Refusal → Type 0 → (Option Refusal → Type 0) → Option Refusal → Type 0
◌when◌else◌ refusal condition others first = (condition × (first ≡ Some refusal)) ⊎ ((¬ condition) × others first)

-- this refusal is the first if its condition doesn't hold, and otherwise the ones after it decide
abbrev pub ◌unless◌else◌ : Refusal → Type 0 → (Option Refusal → Type 0) → Option Refusal → Type 0
◌unless◌else◌ refusal condition others first = ((¬ condition) × (first ≡ Some refusal)) ⊎ (condition × others first)

-- the end of a list of refusals: none of them holds
abbrev pub accept : Option Refusal → Type 0
accept first = first ≡ None

-- the order that is placed on a request under a number: its limits in grains, nothing filled, and the last batch in which it trades, 0 if
-- it has none
abbrev pub ordered : ℕ → Option ℕ → Request → Order
ordered number last r = record {
  number = number;
  account = r.account;
  low = price_of_ticks r.low;
  high = price_of_ticks r.high;
  rate = r.rate;
  cap = r.cap;
  filled = 0;
  row = r.row;
  last = unwrap_or last 0;
}

-- the same under a market's next number, for the contracts and proofs of the market's own calls
abbrev pub placed : Market → Option ℕ → Request → Order
placed m last r = ordered m.next_order last r

-- its account, credit included, has what the order needs beside what the account's other orders need, of money and of each asset
abbrev pub IsAffordable : Market → Order → Type 0
IsAffordable market o = (kind : Option ℕ) → IsKind market.balances kind → pos (need_of kind o) ≤ℤ usable_balance market o.account kind

-- The first refusal of a command: the conditions in the order in which they are tested, or None if no refusal holds. Deposits, withdrawals
-- and credits are of so many ticks of money, a kind that is always there, or of so many units of an asset.
abbrev pub FirstRefusal : Market → Command → Option Refusal → Type 0
FirstRefusal m (AddAsset ticker) =
    BadTicker unless IsTicker ticker else
    TickerTaken when Contains m.tickers ticker else
    AssetLimit when (limits_of m.version).assets ≤ length m.tickers else accept
FirstRefusal m OpenAccount =
    AccountLimit when most_accounts ≤ account_count m.balances else accept
FirstRefusal m (Deposit account kind count) =
    NoAccount unless IsAccount m.balances account else
    NoAsset unless IsKind m.balances kind else
    ZeroAmount when count ≡ 0 else
    TotalLimit when total_limit kind <ℤ (total_of m.balances kind +ℤ value_of kind count) else accept
FirstRefusal m (Withdraw account kind count) =
    NoAccount unless IsAccount m.balances account else
    NoAsset unless IsKind m.balances kind else
    ZeroAmount when count ≡ 0 else
    NotFree when free_balance m account kind <ℤ value_of kind count else accept
FirstRefusal m (Place last r) =
    NoAccount unless IsAccount m.balances r.account else
    BadLimits unless AreLimits r.low r.high else
    BadRate unless IsFrom1To most_rate r.rate else
    BadCap unless IsFrom1To most_cap r.cap else
    BadLast unless IfSome last (λ batch. m.batches < batch) else
    BadRow unless IsRowOf m.version r.row else
    NoAsset unless All (λ e. IsAsset m.balances e.asset) r.row else
    OrderLimit when (limits_of m.version).orders ≤ length m.orders else
    NotFree unless IsAffordable m (ordered m.next_order last r) else accept
FirstRefusal m (CancelOrder account number) =
    NoAccount unless IsAccount m.balances account else
    NoOrder unless HasOrder m.orders account number else accept
FirstRefusal m (RunBatch budget) =
    BadBudget unless IsFrom1To most_budget budget else
    BatchLimit when (limits_of m.version).batches ≤ m.batches else accept
FirstRefusal m (SetCredit account kind count) =
    NoAccount unless IsAccount m.balances account else
    NoAsset unless IsKind m.balances kind else
    CreditLimit when most_credit < count else
    CreditInUse when (free_balance m account kind +ℤ value_of kind count) <ℤ pos 0 else accept

-- ---- accepted commands

-- the market after a batch: one that cleared is settled at its prices, and orders filled to their caps leave; in either case the
-- orders whose last batch it was leave, and the batch is counted
abbrev pub after_batch : Market → Outcome → Market
after_batch m (Cleared c) = record m {
  balances = settled_balances c.prices (trades_of m.orders c.fills) m.balances;
  exchange = settled_exchange c.prices (trades_of m.orders c.fills) m.balances m.exchange;
  orders = going_on (m.batches + 1) (staying (trades_of m.orders c.fills));
  batches = m.batches + 1;
  last_prices = c.prices;
}
after_batch m (Skipped s) = record m { orders = going_on (m.batches + 1) m.orders; batches = m.batches + 1 }

-- the answer is `given`, and the new market is `made`
abbrev pub gives : Answer Outcome → Market → Answer Outcome → Market → Type 0
gives given made answer new = (answer ≡ given) × (new ≡ made)

-- a batch is held: its outcome is one that the rule allows with the version's search for prices, the answer is this outcome under the
-- batch's number, and the new market is the one after it
abbrev pub holds_batch : BatchRule → Market → ℕ → Answer Outcome → Market → Type 0
holds_batch Rule m budget answer new =
    (outcome : Outcome) × Rule (search_of m.version) m.orders (start_prices m) budget outcome × gives (Batch (m.batches + 1) outcome) (after_batch m outcome) answer new

-- the answer to an accepted command, and the market after it
abbrev pub Accepts : BatchRule → Market → Command → Answer Outcome → Market → Type 0
Accepts Rule m (AddAsset ticker) = gives (Plain (reply.Asset (length m.tickers))) (record m {
  tickers = m.tickers ++ ticker ∷ [];
  balances = add_asset m.balances;
  exchange = with_asset m.exchange;
  last_prices = m.last_prices ++ pos 0 ∷ [];
})
Accepts Rule m OpenAccount = gives (Plain (reply.Account (account_count m.balances + 1))) (record m { balances = open_account m.balances })
Accepts Rule m (Deposit account kind count) = gives (Plain reply.Done) (record m { balances = change_balance m.balances account kind (value_of kind count) })
Accepts Rule m (Withdraw account kind count) = gives (Plain reply.Done) (record m { balances = change_balance m.balances account kind (neg_ℤ (value_of kind count)) })
Accepts Rule m (Place last r) = gives (Plain (reply.Order m.next_order)) (record m { orders = m.orders ++ ordered m.next_order last r ∷ []; next_order = m.next_order + 1 })
Accepts Rule m (CancelOrder account number) = gives (Plain reply.Done) (record m { orders = without m.orders number })
Accepts Rule m (RunBatch budget) = holds_batch Rule m budget
Accepts Rule m (SetCredit account kind count) = gives (Plain reply.Done) (record m { balances = set_credit m.balances account kind count })

-- a command gets this answer, and leads from the old market to the new one: the first refusal is the answer and changes nothing; if there
-- is none, the command is accepted
pub record Serves (Rule : BatchRule) (old : Market) (command : Command) (answer : Answer Outcome) (new : Market) : Type 0 where
  pub first : Option Refusal
  pub refused : FirstRefusal old command first
  pub answered : MatchOption first (Accepts Rule old command answer new) (λ refusal. gives (Plain (reply.Refused refusal)) old answer new)

-- the rule that allows no outcome of a batch
abbrev pub NoOutcome : BatchRule
NoOutcome search orders start budget outcome = ⊥

-- a command is served and no batch is held: the command isn't RunBatch, or it is refused
abbrev pub ServesPlain : Market → Command → Answer Outcome → Market → Type 0
ServesPlain = Serves NoOutcome

-- the refusal of a record that is no command
abbrev pub refusal_of : BodyFault → Refusal
refusal_of fault.UnknownTag = refusals.UnknownTag
refusal_of fault.BadBody = refusals.BadBody

-- what a step does with what a record is read as: a command is served, and anything else is refused and changes nothing
abbrev pub ServesRead : BatchRule → Market → Result Command BodyFault → Answer Outcome → Market → Type 0
ServesRead Rule old (Ok command) = Serves Rule old command
ServesRead Rule old (Err why) = gives (Plain (reply.Refused (refusal_of why))) old
