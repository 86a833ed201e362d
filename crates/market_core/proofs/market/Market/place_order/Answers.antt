use Rattle.std.proofs.Common.{Some, refl}
use Rattle.market_core.proofs.market.Market.place_order.Goals as goal

pub returns-in-Some-clause-served : goal.returns-in-Some-clause-served
returns-in-Some-clause-served c = record { first = Some c.in-Some.refusal; refused = c.in-Some.ensures; answered = (refl, refl) }
