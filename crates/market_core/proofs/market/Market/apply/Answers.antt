use Rattle.std.proofs.Common.{◌≡◌, Some, None, rules, subst, sym}
use Rattle.wire_records.specs.Commands.{Place}
use Rattle.wire_records.specs.CommandRecords.{IsCommand}
use Rattle.market_core.proofs.market.Market.apply.Goals as goal

pub place_order-requires-clause-command : goal.place_order-requires-clause-command
place_order-requires-clause-command c =
    let given : IsCommand (Place None c.in-PlaceOrder.place) = rw c.in-PlaceOrder.is at c.requires.command in
    let copied : c.unwrap.result ≡ c.in-PlaceOrder.place = search rules in
    subst (λ place. IsCommand (Place None place)) (sym copied) given

pub place_order-requires-in-PlaceUntil-clause-command : goal.place_order-requires-in-PlaceUntil-clause-command
place_order-requires-in-PlaceUntil-clause-command c =
    let given : IsCommand (Place (Some c.in-PlaceUntil.last) c.in-PlaceUntil.place) = rw c.in-PlaceUntil.is at c.requires.command in
    let copied : c.unwrap-in-PlaceUntil.result ≡ c.in-PlaceUntil.place = search rules in
    subst (λ place. IsCommand (Place (Some c.in-PlaceUntil.last) place)) (sym copied) given
