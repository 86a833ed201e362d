use Rattle.order_text.proofs.Ladders.{ladder_asks_together}
use Rattle.order_text.proofs.laws.ladder_asks_together.Goals as goal

pub returns : goal.returns
returns c = ladder_asks_together
