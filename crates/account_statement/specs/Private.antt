-- Definitions that only private functions use.
use Rattle.std.specs.Prelude.{◌≡◌, ℕ, ◌<◌, ◌≤◌, ◌==◌, if◌then◌else◌, ℤ, neg_ℤ, ◌+ℤ◌, ◌-ℤ◌, List, [], ◌∷◌, ◌++◌, map, length, All, AllPairs, slice_index_or, ⊤, Option, Some, None}
use Rattle.list_sums.specs.Sums.{int_sum_by}
use Rattle.weight_rows.specs.Rows.{IsWeightVector, IsPrice, IsPricedBy}
use Rattle.demand_curve.specs.Demand.{most_rate}
use Rattle.ticker_table.specs.Tickers.{ticker_limit}
use Rattle.ticker_table.specs.Adding.{IsAddable}
use Rattle.wire_records.specs.Commands.{Request, Command, Answer, Plain, Batch}
use Rattle.wire_records.specs.Views.{command_of}
use Rattle.flow_accounts.specs.Balances.{value_of}
use Rattle.flow_accounts.specs.Lawful.{IsMoneyBalance, IsUnitBalance}
use Rattle.flow_orders.specs.Orders.{Order, AreLimits, IsFrom1To, most_cap, most_orders, terms_of}
use Rattle.flow_orders.specs.Outcomes.{Fill, Clearing, Outcome, Cleared, Skipped, IsAdmissibleOutcome}
use Rattle.flow_orders.specs.Trades.{Trade, trades, paid, received}
use Rattle.order_book.specs.Book.{HasOrder}
use Rattle.market_rules.specs.Market.{Market, IsConsistent}
use Rattle.market_rules.specs.Step.{Serves}
use Rattle.statement_rules.specs.Views.{Event, Adds, Opens, Deposits, Withdraws, Credits, Places, Cancels, Refuses, Clears, Skips, event_if, seen_plain}
use Rattle.statement_rules.specs.Holdings.{Holding, after_all}
use Rattle.statement_rules.specs.Statements.{lines_from}
use Rattle.account_statement.specs.declared.event.Event as seen
use Rattle.account_statement.specs.declared.event.Event.TheVariants as event
use Rattle.account_statement.specs.Telling.{Statement, holding_of, Agrees}

-- two holdings are alike: equal, and in the units of each asset equal as far as there are tickers
pub record AreAlike (one other : Holding) : Type 0 where
  pub tickers : one.tickers ≡ other.tickers
  pub is_open : one.is_open ≡ other.is_open
  pub money : one.money ≡ other.money
  pub units : (asset : ℕ) → asset < length other.tickers → one.units asset ≡ other.units asset
  pub orders : one.orders ≡ other.orders

-- ---- what a statement copies from a market

-- at least one of the orders belongs to this account
abbrev pub HasOwnOrder : ℕ → List Order → Type 0
HasOwnOrder account orders = (place : ℕ) × (place < length orders) × ((default : Order) → (slice_index_or orders place default).account ≡ account)

-- ---- what an account sees of a command

-- the event that a value of the code is
abbrev pub event_of : seen.Event → Event
event_of (event.Adds ticker) = Adds ticker.now
event_of (event.Opens account) = Opens account
event_of (event.Deposits asset count) = Deposits asset count
event_of (event.Withdraws asset count) = Withdraws asset count
event_of (event.Credits asset count) = Credits asset count
event_of (event.Places number last place) = Places number last place.now
event_of (event.Cancels number) = Cancels number
event_of (event.Refuses command refusal) = Refuses (command_of command.now) refusal

-- the events that a value of the code is: at most one
abbrev pub events_of : Option seen.Event → List Event
events_of None = []
events_of (Some shown) = event_of shown ∷ []

-- ---- the rates of own orders

-- the rate that is listed under a number, or 0 if none is
unfoldable pub rate_in : List Fill → ℕ → ℕ
rate_in [] number = 0
rate_in (f ∷ fills) number = if f.order == number then f.rate else rate_in fills number

-- the rates of these orders, by their places
abbrev pub rates_for : List Fill → List Order → List ℕ
rates_for fills orders = map (λ (o : Order). rate_in fills o.number) orders

-- the fills of these orders, as they are published: each order's number with its rate
abbrev pub fills_for : List Fill → List Order → List Fill
fills_for fills orders = map (λ (o : Order). record { order = o.number; rate = rate_in fills o.number }) orders

-- the trades of these orders at their rates
abbrev pub trades_for : List Fill → List Order → List Trade
trades_for fills orders = trades orders (rates_for fills orders)

-- the value at a place at which there is no fill
abbrev pub no_fill : Fill
no_fill = record { order = 0; rate = 0 }

-- the fill at a place that has one
abbrev pub fill_at : List Fill → ℕ → Fill
fill_at fills place = slice_index_or fills place no_fill

-- the fills are by ascending numbers of orders
abbrev pub AreAscending : List Fill → Type 0
AreAscending fills = AllPairs (λ (f : Fill) (later : Fill). f.order < later.order) fills

-- there is a fill under this number
abbrev pub IsListed : List Fill → ℕ → Type 0
IsListed fills number = (place : ℕ) × (place < length fills) × ((fill_at fills place).order ≡ number)

-- ---- what is seen, by what the statement holds

-- what the account sees of an answered command, by what the statement holds
abbrev pub seen_by : Statement → Command → Answer Outcome → List Event
seen_by s command (Plain answer) = seen_plain s.account s.is_open command answer
seen_by s command (Batch batch (Cleared c)) = event_if s.is_open (Clears batch c.prices (fills_for c.fills s.orders))
seen_by s command (Batch batch (Skipped k)) = event_if s.is_open (Skips batch)

-- some consistent market with which the statement agrees answers the command so
pub record IsServed (s : Statement) (command : Command) (answer : Answer Outcome) : Type 0 where
  pub market : Market
  pub next : Market
  pub consistent : IsConsistent market
  pub consistent_next : IsConsistent next
  pub agrees : Agrees market s
  pub served : Serves IsAdmissibleOutcome market command answer next

-- The statement has taken these events: it holds what follows from them, and their lines come after the text before.
pub record Tells (events : List Event) (old new : Statement) (before now : List ℕ) : Type 0 where
  pub account : new.account ≡ old.account
  pub after : AreAlike (holding_of new) (after_all (holding_of old) events)
  pub text : now ≡ before ++ lines_from (holding_of old) events

-- ---- what may be done to what a statement holds

-- an order that may be added: the account's own, within the limits, and with a number above those of the others
pub record MayPlace (account : ℕ) (h : Holding) (number : ℕ) (r : Request) : Type 0 where
  pub own : r.account ≡ account
  pub limits : AreLimits r.low r.high
  pub rate : IsFrom1To most_rate r.rate
  pub cap : IsFrom1To most_cap r.cap
  pub row : IsWeightVector r.row
  pub few : length h.orders < most_orders
  pub above : All (λ (o : Order). o.number < number) h.orders

-- a change of what the account has of a kind that may be made: the asset is there, and the balance after it fits
abbrev pub MayChange : Holding → Option ℕ → ℤ → Type 0
MayChange h None amount = IsMoneyBalance (h.money +ℤ amount)
MayChange h (Some asset) amount = (asset < length h.tickers) × IsUnitBalance (h.units asset +ℤ amount)

-- an event that may be taken: its ticker can be added, its amount fits, its order may be added or is there; of a batch see `MayClear`
abbrev pub MayTake : ℕ → Holding → Event → Type 0
MayTake account h (Adds ticker) = IsAddable ticker_limit h.tickers ticker
MayTake account h (Opens number) = ⊤
MayTake account h (Deposits kind count) = MayChange h kind (value_of kind count)
MayTake account h (Withdraws kind count) = MayChange h kind (neg_ℤ (value_of kind count))
MayTake account h (Credits kind count) = ⊤
MayTake account h (Places number last r) = MayPlace account h number r
MayTake account h (Cancels number) = HasOrder h.orders account number
MayTake account h (Refuses command refusal) = ⊤
MayTake account h (Clears batch prices fills) = ⊤
MayTake account h (Skips batch) = ⊤

-- a clearing has a rate of each own order, which is within its batch maximum, and a price of each asset
pub record HasOwn (orders : List Order) (c : Clearing) : Type 0 where
  pub few : length orders ≤ most_orders
  pub ascending : AreAscending c.fills
  pub listed : All (λ (o : Order). IsListed c.fills o.number) orders
  pub small : All IsPrice c.prices
  pub priced : All (λ (o : Order). IsPricedBy o.row c.prices) orders
  pub within : All (λ (t : Trade). t.traded ≤ (terms_of t.order).room) (trades_for c.fills orders)

-- a clearing has the account's own rates and prices, and what they pay and bring fits the balances
pub record MayClear (h : Holding) (c : Clearing) : Type 0 where
  pub own : HasOwn h.orders c
  pub assets : length h.tickers ≡ length c.prices
  pub money : IsMoneyBalance (h.money -ℤ int_sum_by (paid c.prices) (trades_for c.fills h.orders))
  pub units : (asset : ℕ) → asset < length h.tickers → IsUnitBalance (h.units asset +ℤ int_sum_by (received asset) (trades_for c.fills h.orders))
