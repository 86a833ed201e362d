-- What the fields of a statement represent.
use Rattle.std.specs.Prelude.{◌≡◌, length, vec_len, All}
use Rattle.flow_orders.specs.Orders.{Order}
use Rattle.account_statement.specs.Telling.{Statement}
use Rattle.account_statement.specs.declared.statement.Statement.TheInside.{Inside}

-- the statement that the fields represent
abbrev pub statement_in : Inside → Statement
statement_in s = record {
  account = s.account;
  tickers = s.tickers;
  is_open = s.is_open;
  money = s.money;
  units = s.units.items;
  orders = s.book.orders;
}

-- the invariant of the fields: a balance for each ticker, and orders of the account alone
pub record IsKept (s : Inside) : Type 0 where
  pub one_each : vec_len s.units ≡ length s.tickers
  pub own : All (λ (o : Order). o.account ≡ s.account) s.book.orders
