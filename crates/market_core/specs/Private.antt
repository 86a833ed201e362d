-- Definitions that only private functions of the market use.
use Rattle.std.specs.Prelude.{Bool, true, false, Option, None, ◌≤◌, length, All}
use Rattle.demand_curve.specs.Demand.{most_rate}
use Rattle.flow_accounts.specs.Balances.{IsAccount, IsAsset}
use Rattle.flow_orders.specs.Orders.{Order, most_cap, AreLimits, IsFrom1To}
use Rattle.wire_records.specs.Commands.{Request}
use Rattle.wire_records.specs.Limits.{limits_of}
use Rattle.market_rules.specs.Market.{Market, IsRowOf}
use Rattle.market_rules.specs.Step.{◌when◌else◌, ◌unless◌else◌, accept, IsAffordable, placed}
use Rattle.ticker_table.specs.declared.table.TickerFault.{TickerFault}
use Rattle.ticker_table.specs.declared.table.TickerFault.TheVariants as ticker
use Rattle.flow_accounts.specs.declared.fault.AccountFault.{AccountFault}
use Rattle.flow_accounts.specs.declared.fault.AccountFault.TheVariants as fault
use Rattle.wire_records.specs.declared.reply.Refusal.{Refusal}
use Rattle.wire_records.specs.declared.reply.Refusal.TheVariants.{AssetLimit, TickerTaken, BadTicker, AccountLimit, NoAccount, NoAsset, ZeroAmount, TotalLimit, NotFree, NoOrder, BadLimits, BadRate, BadCap, BadRow, OrderLimit, CreditLimit, CreditInUse}
use Rattle.wire_records.specs.declared.reply.Reply.{Reply}
use Rattle.wire_records.specs.declared.reply.Reply.TheVariants.{Done, Refused}

-- the fault is answered by a refusal: any fault but running out of memory
abbrev pub IsAnswered : AccountFault → Type 0
IsAnswered fault.Memory = ⊥
IsAnswered fault.NoAccount = Unit {0}
IsAnswered fault.NoAsset = Unit {0}
IsAnswered fault.Zero = Unit {0}
IsAnswered fault.TotalLimit = Unit {0}
IsAnswered fault.Full = Unit {0}
IsAnswered (fault.NotFree free) = Unit {0}
IsAnswered fault.CreditLimit = Unit {0}
IsAnswered (fault.InUse used) = Unit {0}

-- the refusal for a fault of the accounts; running out of memory has none, and the value given for it is arbitrary
abbrev pub refusal_for : AccountFault → Refusal
refusal_for fault.NoAccount = NoAccount
refusal_for fault.NoAsset = NoAsset
refusal_for fault.Zero = ZeroAmount
refusal_for fault.TotalLimit = TotalLimit
refusal_for fault.Full = AccountLimit
refusal_for (fault.NotFree free) = NotFree
refusal_for fault.CreditLimit = CreditLimit
refusal_for (fault.InUse used) = CreditInUse
refusal_for fault.Memory = NoAccount

-- the refusal for a fault of a ticker; running out of memory has none, and the value given for it is arbitrary
abbrev pub ticker_refusal : TickerFault → Refusal
ticker_refusal ticker.BadTicker = BadTicker
ticker_refusal (ticker.Taken number) = TickerTaken
ticker_refusal ticker.Full = AssetLimit
ticker_refusal ticker.Memory = BadTicker

-- the reply to a cancel, by whether the order is live
abbrev pub cancel_reply : Bool → Reply
cancel_reply true = Done
cancel_reply false = Refused NoOrder

-- the refusals of an order for its account and its numbers, in their order; if none of them holds, the others decide
abbrev pub RefusesNumbers : Market → Request → (Option Refusal → Type 0) → Option Refusal → Type 0
RefusesNumbers m r others =
    NoAccount unless IsAccount m.balances r.account else
    BadLimits unless AreLimits r.low r.high else
    BadRate unless IsFrom1To most_rate r.rate else
    BadCap unless IsFrom1To most_cap r.cap else others

-- the refusals of an order whose numbers are within their limits: for its weight vector, for a full book, or for what it needs
abbrev pub RefusesRow : Market → Order → Option Refusal → Type 0
RefusesRow m o =
    BadRow unless IsRowOf m.version o.row else
    NoAsset unless All (λ e. IsAsset m.balances e.asset) o.row else
    OrderLimit when (limits_of m.version).orders ≤ length m.orders else
    NotFree unless IsAffordable m o else accept

-- no refusal of an order for its account or its numbers holds
pub record HasRightNumbers (m : Market) (r : Request) : Type 0 where
  pub account : IsAccount m.balances r.account
  pub limits : AreLimits r.low r.high
  pub rate : IsFrom1To most_rate r.rate
  pub cap : IsFrom1To most_cap r.cap

-- no refusal is the first one here: after these tests nothing decides
abbrev pub no_other : Option Refusal → Type 0
no_other first = ⊥

-- the account has free what the order of a request needs, whatever its last batch
abbrev pub IsFreeFor : Market → Request → Type 0
IsFreeFor m r = IsAffordable m (placed m None r)
