use Rattle.weight_rows.proofs.RowLawProofs.{price_sums_over_assets}
use Rattle.weight_rows.proofs.laws.price_sums_over_assets.Goals as goal

pub returns : goal.returns
returns c = price_sums_over_assets
