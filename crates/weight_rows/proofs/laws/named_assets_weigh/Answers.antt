use Rattle.weight_rows.proofs.RowLawProofs.{named_assets_weigh}
use Rattle.weight_rows.proofs.laws.named_assets_weigh.Goals as goal

pub returns : goal.returns
returns c = named_assets_weigh
