use Rattle.std.proofs.Common.{◌+◌, [], ◌∷◌, ◌++◌, Some, None, refl}
use Rattle.wire_records.specs.Commands.{Place}
use Rattle.market_rules.specs.Step.{FirstRefusal, placed}
use Rattle.market_core.specs.Kept.{market_in}
use Rattle.market_core.proofs.market.Market.expected_order.Goals as goal

pub returns-in-Some : goal.returns-in-Some
returns-in-Some c = (c.args.self.now, record { first = Some c.in-Some.refusal; refused = c.in-Some.ensures; answered = (refl, refl) })

pub returns-in-None : goal.returns-in-None
returns-in-None c =
    let m = market_in c.self.inside in
    let first : FirstRefusal m (Place c.args.last c.args.place.now) None = rw (← c.self.view_is) at c.in-None.ensures in
    rw (← c.self.view_is) (
      record m { orders = m.orders ++ placed m c.args.last c.args.place.now ∷ []; next_order = m.next_order + 1 },
      record { first = None; refused = first; answered = (refl, refl) },
    )
