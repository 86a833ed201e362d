use Rattle.std.proofs.Common.{◌≡◌, ◌*◌, ◌≤◌, take}
use Rattle.std.specs.Prelude.{unsigned_abs}
use Rattle.std.specs.List.{sum_by}
use Rattle.weight_rows.specs.Rows.{weight_in}
use Rattle.flow_orders.proofs.bounds.spread.Given as goal

abbrev pub invariant-loop-order : goal.invariant-loop-order
invariant-loop-order l =
    (l.sum ≡ sum_by (λ o. unsigned_abs (weight_in o.row l.asset)) (take l.order-index l.orders)) × (l.sum ≤ l.order-index * 4096)
