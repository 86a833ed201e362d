-- Laws of tickers and tables, for the crates that print and number them.
use Rattle.std.specs.Prelude.{◌≡◌, ℕ, List}
use Rattle.ticker_table.specs.Tickers.{IsTicker, HasNumber, AreTickers}

-- a ticker has one name
abbrev pub OneName : Type 0
OneName = (bytes : List ℕ) (a b : IsTicker bytes) → a.name ≡ b.name

-- a ticker of a table has one number
abbrev pub OneNumber : Type 0
OneNumber =
    (tickers : List (List ℕ)) (i j : ℕ) (ticker : List ℕ) → AreTickers tickers → HasNumber tickers i ticker → HasNumber tickers j ticker → i ≡ j
