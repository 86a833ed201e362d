-- When a ticker can be added to a table.
use Rattle.std.specs.Prelude.{ℕ, ◌<◌, List, length, Contains}
use Rattle.ticker_table.specs.Tickers.{IsTicker}

-- a ticker can be added to a table of at most so many: it is valid, isn't in the table, and the table isn't full
pub record IsAddable (most : ℕ) (tickers : List (List ℕ)) (ticker : List ℕ) : Type 0 where
  pub valid : IsTicker ticker
  pub absent : ¬ Contains tickers ticker
  pub place : length tickers < most
