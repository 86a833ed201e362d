-- Laws of views and statements.
use Rattle.std.specs.Prelude.{◌≡◌, ℕ, ◌↔◌, true, pos, List, [], ◌++◌, map, All, Contains, Some, None}
use Rattle.wire_records.specs.Records.{Record}
use Rattle.wire_records.specs.Commands.{Pair}
use Rattle.wire_records.specs.declared.version.Version.{Version}
use Rattle.flow_accounts.specs.Balances.{IsAccount, IsAsset, money_of, units_of}
use Rattle.flow_orders.specs.Orders.{Order, needed_money, needed_units}
use Rattle.flow_orders.specs.Outcomes.{Fill, Clearing, Outcome, IsAdmissibleClearing}
use Rattle.market_rules.specs.Market.{Market, IsConsistent, empty_market, start_prices}
use Rattle.market_rules.specs.Laws.{Leads}
use Rattle.statement_rules.specs.Views.{Event, Sees, own_fills}
use Rattle.statement_rules.specs.Holdings.{Holding, nothing, after_all, own_orders, held_in, IsHeld}
use Rattle.statement_rules.specs.Statements.{IsStatement, lines_from, view_text, end_lines, statement, carried_lines, text_from, statement_from, IsStatementFrom, reserved_balance}

-- a view of valid steps is one of steps that lead to its market, and valid steps have exactly one view of an account
pub record OneView : Type 0 where
  pub leads : (account : ℕ) (old : Market) (pairs : List (Pair Record Outcome)) (view : List Event) (new : Market) → Sees account old pairs view new → Leads old pairs new
  pub some : (account : ℕ) (old : Market) (pairs : List (Pair Record Outcome)) (new : Market) → Leads old pairs new → (view : List Event) × Sees account old pairs view new
  pub one : (account : ℕ) (old : Market) (pairs : List (Pair Record Outcome)) (v w : List Event) (m n : Market) → Sees account old pairs v m → Sees account old pairs w n → v ≡ w

-- the view of a part of a journal, followed by the view of what comes after it, is the view of both
abbrev pub ViewsCompose : Type 0
ViewsCompose = (account : ℕ) (old mid new : Market) (pairs more : List (Pair Record Outcome)) (v w : List Event)
    → Sees account old pairs v mid → Sees account mid more w new → Sees account old (pairs ++ more) (v ++ w) new

-- two valid journals with equal views of an account give equal statements of it, whatever else is in them, since its
-- view alone determines what it has
abbrev pub EqualViewsEqualStatements : Type 0
EqualViewsEqualStatements = (account : ℕ) (one other : Version) (pairs more : List (Pair Record Outcome)) (v w : List Event) (m n : Market)
    → Sees account (empty_market one) pairs v m → Sees account (empty_market other) more w n → v ≡ w → statement v ≡ statement w

-- what a view says that an account has is what it has in the market: over steps from a consistent market on, and so
-- after each valid journal
pub record ViewsTellHoldings : Type 0 where
  pub steps : (account : ℕ) (old : Market) (pairs : List (Pair Record Outcome)) (view : List Event) (new : Market) (h : Holding)
      → IsConsistent old → IsHeld account old h → Sees account old pairs view new → IsHeld account new (after_all h view)
  pub journal : (account : ℕ) (version : Version) (pairs : List (Pair Record Outcome)) (view : List Event) (m : Market)
      → Sees account (empty_market version) pairs view m → IsHeld account m (after_all nothing view)

-- the last lines of a statement are the account's balances and what its live orders need, in the market of the journal;
-- and an account is there exactly if its view has opened it
pub record StatementsEndWithBalances : Type 0 where
  pub opened : (account : ℕ) (m : Market) (h : Holding) → IsHeld account m h → (h.is_open ≡ true) ↔ IsAccount m.balances account
  pub money : (account : ℕ) (m : Market) (h : Holding) → IsAccount m.balances account → IsHeld account m h → h.money ≡ money_of m.balances account
  pub units : (account : ℕ) (m : Market) (h : Holding) (asset : ℕ) → IsAccount m.balances account → IsAsset m.balances asset → IsHeld account m h → h.units asset ≡ units_of m.balances account asset
  pub money_needed : (account : ℕ) (m : Market) (h : Holding) → IsHeld account m h → pos (reserved_balance h None) ≡ needed_money m.orders account
  pub units_needed : (account : ℕ) (m : Market) (h : Holding) (asset : ℕ) → IsHeld account m h → pos (reserved_balance h (Some asset)) ≡ needed_units m.orders account asset

-- each account of the market after a valid journal has exactly one statement
pub record OneStatement : Type 0 where
  pub some : (account : ℕ) (version : Version) (pairs : List (Pair Record Outcome)) (m : Market) → Leads (empty_market version) pairs m → IsAccount m.balances account
      → (text : List ℕ) × IsStatement account version pairs text
  pub one : (account : ℕ) (version : Version) (pairs : List (Pair Record Outcome)) (x y : List ℕ) → IsStatement account version pairs x → IsStatement account version pairs y → x ≡ y

-- the text of a view that is continued is the text of its first part and then the lines of what follows: what was written stays
abbrev pub TextsGoOn : Type 0
TextsGoOn = (v w : List Event) → view_text (v ++ w) ≡ view_text v ++ lines_from (after_all nothing v) w

-- a valid journal has no text for a number that no account of the market has
abbrev pub AbsentAccountsHaveNoText : Type 0
AbsentAccountsHaveNoText = (account : ℕ) (version : Version) (pairs : List (Pair Record Outcome)) (view : List Event) (m : Market)
    → Sees account (empty_market version) pairs view m → ¬ IsAccount m.balances account → view_text view ≡ []

-- the rates that an account sees of an admissible clearing are those that were published for its live orders, one each,
-- by ascending numbers
pub record OwnRatesArePublished : Type 0 where
  pub numbers : (account : ℕ) (m : Market) (c : Clearing) → IsAdmissibleClearing m.orders (start_prices m) c
      → map (λ (f : Fill). f.order) (own_fills account m c) ≡ map (λ (o : Order). o.number) (own_orders account m.orders)
  pub published : (account : ℕ) (m : Market) (c : Clearing) → IsAdmissibleClearing m.orders (start_prices m) c
      → All (λ (f : Fill). Contains c.fills f) (own_fills account m c)

-- any two holdings of an account in one market give the same text: the same lines for whatever comes next, and the same last lines
pub record HoldingsTellAlike : Type 0 where
  pub lines : (account : ℕ) (m : Market) (one other : Holding) (view : List Event)
      → IsHeld account m one → IsHeld account m other → lines_from one view ≡ lines_from other view
  pub last : (account : ℕ) (m : Market) (one other : Holding)
      → IsConsistent m → IsAccount m.balances account → IsHeld account m one → IsHeld account m other → end_lines one ≡ end_lines other

-- ---- statements that begin in a market

-- nothing is carried forward from an empty market, so the statement that begins there is that of a journal
pub record JournalsCarryNothing : Type 0 where
  pub text : (account : ℕ) (version : Version) (view : List Event) → text_from account (empty_market version) view ≡ view_text view
  pub whole : (account : ℕ) (version : Version) (view : List Event) → statement_from account (empty_market version) view ≡ statement view

-- each account of the market after valid entries has exactly one statement that begins in the market before them
pub record OneStatementFrom : Type 0 where
  pub some : (account : ℕ) (start : Market) (pairs : List (Pair Record Outcome)) (m : Market) → Leads start pairs m → IsAccount m.balances account
      → (text : List ℕ) × IsStatementFrom account start pairs text
  pub one : (account : ℕ) (start : Market) (pairs : List (Pair Record Outcome)) (x y : List ℕ) → IsStatementFrom account start pairs x → IsStatementFrom account start pairs y → x ≡ y

-- if an account has the same in two markets, equal views that begin in these markets give equal texts and equal statements, whatever
-- else is in the markets and in the entries
pub record EqualStartsEqualStatements : Type 0 where
  pub carried : (account : ℕ) (one other : Market) → IsConsistent other → IsHeld account other (held_in account one) → carried_lines account one ≡ carried_lines account other
  pub text : (account : ℕ) (one other : Market) (v w : List Event) → IsConsistent other → IsHeld account other (held_in account one) → v ≡ w → text_from account one v ≡ text_from account other w
  pub whole : (account : ℕ) (one other : Market) (pairs more : List (Pair Record Outcome)) (v w : List Event) (m n : Market)
      → IsConsistent other → IsHeld account other (held_in account one) → Sees account one pairs v m → Sees account other more w n → v ≡ w
      → IsAccount n.balances account → statement_from account one v ≡ statement_from account other w

-- Entries are divided in two at a market. The last lines of the first part's statement are the lines that are carried forward to the
-- second part's. Without these lines, the two statements, one after the other, are the statement of all entries. If the account isn't
-- there at the division, the first part writes nothing of it, and nothing is carried forward.
pub record StatementsJoin : Type 0 where
  pub carried : (account : ℕ) (old mid : Market) (pairs : List (Pair Record Outcome)) (v : List Event)
      → IsConsistent old → Sees account old pairs v mid → IsAccount mid.balances account → end_lines (after_all (held_in account old) v) ≡ carried_lines account mid
  pub text : (account : ℕ) (old mid : Market) (pairs : List (Pair Record Outcome)) (v w : List Event)
      → IsConsistent old → Sees account old pairs v mid → text_from account old (v ++ w) ≡ text_from account old v ++ lines_from (held_in account mid) w
  pub whole : (account : ℕ) (old mid new : Market) (pairs more : List (Pair Record Outcome)) (v w : List Event)
      → IsConsistent old → Sees account old pairs v mid → Sees account mid more w new → IsAccount new.balances account
      → (second : List ℕ) × (statement_from account mid w ≡ carried_lines account mid ++ second) × (statement_from account old (v ++ w) ≡ text_from account old v ++ second)
  pub absent : (account : ℕ) (old mid : Market) (pairs : List (Pair Record Outcome)) (v : List Event)
      → IsConsistent old → Sees account old pairs v mid → ¬ IsAccount mid.balances account → (text_from account old v ≡ []) × (carried_lines account mid ≡ [])

-- Two markets have the same assets, and the account's live orders are the same in both. If the lines that are carried forward from them
-- are equal, the account has the same in both, and so equal views after them give equal statements.
pub record EqualCarriedLinesEqualStatements : Type 0 where
  pub holdings : (account : ℕ) (one other : Market) → IsConsistent one → IsConsistent other → one.tickers ≡ other.tickers → own_orders account one.orders ≡ own_orders account other.orders
      → carried_lines account one ≡ carried_lines account other → IsHeld account other (held_in account one)
  pub statements : (account : ℕ) (one other : Market) (pairs more : List (Pair Record Outcome)) (v w : List Event) (m n : Market)
      → IsConsistent one → IsConsistent other → one.tickers ≡ other.tickers → own_orders account one.orders ≡ own_orders account other.orders
      → carried_lines account one ≡ carried_lines account other → Sees account one pairs v m → Sees account other more w n → v ≡ w
      → IsAccount n.balances account → statement_from account one v ≡ statement_from account other w
