-- The dual value is the exact one, rounded down order by order.
use Rattle.flow_orders.proofs.DualWalks.{floors_enclose_dual}
use Rattle.dual_value.specs.Near.{DualFloorsAreNear}

pub dual_floors_are_near : DualFloorsAreNear
dual_floors_are_near N orders prices each common =
    let both = floors_enclose_dual N orders prices common.0 common.1 (λ k d inside. let o = each k d inside in record { limits = o.terms; lawful = o.row }) in
    record { below = both.0; near = both.1 }
