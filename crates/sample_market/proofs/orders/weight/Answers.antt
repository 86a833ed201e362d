use Rattle.std.proofs.Common.{w32}
use Rattle.std.proofs.lemmas.Int.{to_z-of_z}
use Rattle.sample_market.proofs.Drawn.{weight_is}
use Rattle.sample_market.proofs.orders.weight.Goals as goal

pub returns-clause-value : goal.returns-clause-value
returns-clause-value c =
    rw (to_z-of_z w32 _ (record { sfits = c.signed.type_inv }), c.signed.ensures)
    (weight_is c.args.draws.now c.below-size.new.self c.below-size.result c.below-sold.result c.below-size.ensures.value c.below-size.ensures.next c.below-sold.ensures.value)
