use Rattle.ticker_table.proofs.Places.{one_number}
use Rattle.ticker_table.proofs.laws.one_number.Goals as goal

pub returns : goal.returns
returns c = λ tickers i j ticker consistent. one_number tickers consistent.distinct i j ticker
