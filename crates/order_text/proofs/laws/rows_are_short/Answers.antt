use Rattle.order_text.proofs.ShortRows.{rows_are_short}
use Rattle.order_text.proofs.laws.rows_are_short.Goals as goal

pub returns : goal.returns
returns c = rows_are_short
