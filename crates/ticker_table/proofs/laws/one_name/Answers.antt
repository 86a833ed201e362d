use Rattle.ticker_table.proofs.Names.{one_name}
use Rattle.ticker_table.proofs.laws.one_name.Goals as goal

pub returns : goal.returns
returns c = one_name
