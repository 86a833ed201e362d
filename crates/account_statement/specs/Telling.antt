-- What contracts see of a statement, and what taking an entry does.
use Rattle.std.specs.Prelude.{◌≡◌, ◌⊎◌, ◌<◌, ℕ, Bool, ℤ, pos, List, ◌++◌, length, slice_index_or}
use Rattle.wire_records.specs.Records.{Record}
use Rattle.flow_accounts.specs.Balances.{IsAccount}
use Rattle.flow_orders.specs.Orders.{Order}
use Rattle.market_rules.specs.Market.{Market}
use Rattle.batch_audit.specs.Legal.{IsLegalPair}
use Rattle.statement_rules.specs.Views.{seen}
use Rattle.statement_rules.specs.Holdings.{Holding, IsHeld}
use Rattle.statement_rules.specs.Statements.{lines_from}

-- a statement: whose it is, and what the account has by the entries so far: the tickers that were added, whether it was
-- opened, its money in grains, its units of each asset by the assets' numbers, and its live orders
pub record Statement : Type 0 where
  pub account : ℕ
  pub tickers : List (List ℕ)
  pub is_open : Bool
  pub money : ℤ
  pub units : List ℤ
  pub orders : List Order

-- what the account has, as a holding
abbrev pub holding_of : Statement → Holding
holding_of s = record {
  tickers = s.tickers;
  is_open = s.is_open;
  money = s.money;
  units = λ asset. slice_index_or s.units asset (pos 0);
  orders = s.orders;
}

-- the statement agrees with the market: it holds what the account has there
abbrev pub Agrees : Market → Statement → Type 0
Agrees m s = IsHeld s.account m (holding_of s)

-- copying what an account has in a market may allocate if the market has an asset or the account
abbrev pub AllocatesCopy : ℕ → Market → Type 0
AllocatesCopy account m = (0 < length m.tickers) ⊎ IsAccount m.balances account

-- The statement has taken a valid entry of a market: it agrees with the market after it, and the text is the one
-- before, followed by the lines of what the account sees of the entry.
pub record IsTold (m : Market) (pair : Record × Record) (old new : Statement) (before now : List ℕ) (next : Market) (legal : IsLegalPair m pair next) : Type 0 where
  pub agrees : Agrees next new
  pub text : now ≡ before ++ lines_from (holding_of old) (seen old.account m legal.step.read legal.answer)
