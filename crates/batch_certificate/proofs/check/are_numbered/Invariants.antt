use Rattle.std.proofs.Common.{◌≡◌, map, get_or}
use Rattle.flow_orders.specs.Orders.{Order}
use Rattle.batch_certificate.specs.Verdicts.{HoldsBelow}
use Rattle.batch_outcome.specs.Parts.{numbers_in}
use Rattle.batch_certificate.proofs.check.are_numbered.Given as goal

abbrev pub invariant-loop-place : goal.invariant-loop-place
invariant-loop-place g l =
    HoldsBelow (λ k. get_or (numbers_in (g.P.ClearedParts.clearing l.parts)) k 0 ≡ get_or (map (λ (o : Order). o.number) l.orders) k 0) l.place
