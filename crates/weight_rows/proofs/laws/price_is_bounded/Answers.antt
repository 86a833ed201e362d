use Rattle.weight_rows.proofs.RowLemmas.{price_is_bounded}
use Rattle.weight_rows.proofs.laws.price_is_bounded.Goals as goal

pub returns : goal.returns
returns c = price_is_bounded
