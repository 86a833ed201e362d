use Rattle.weight_rows.proofs.RowLawProofs.{price_follows_one_price}
use Rattle.weight_rows.proofs.laws.price_follows_one_price.Goals as goal

pub returns : goal.returns
returns c = price_follows_one_price
