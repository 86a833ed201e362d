use Rattle.std.proofs.Common.{length, ap, None, Some}
use Rattle.wire_records.specs.Commands.{Request, Place}
use Rattle.wire_records.proofs.RequestPlaces.{order_written, until_written}
use Rattle.wire_records.proofs.command.Command.view.Goals as goal

pub place_at-requires : goal.place_at-requires
place_at-requires c =
    let request : Request = record { account = c.in-PlaceOrder.account; low = c.in-PlaceOrder.low; high = c.in-PlaceOrder.high; rate = c.in-PlaceOrder.rate; cap = c.in-PlaceOrder.cap; row = c.in-PlaceOrder.row } in
    let there = order_written c.args.bytes.now c.requires.written.0 (length c.as_slice.result.now) request (ap length c.as_slice.ensures) (rw c.in-PlaceOrder.is at c.requires.fits) (rw c.in-PlaceOrder.is at c.requires.written.1) in
    (request, there)

pub returns-in-PlaceOrder : goal.returns-in-PlaceOrder
returns-in-PlaceOrder c =
    let request : Request = record { account = c.in-PlaceOrder.account; low = c.in-PlaceOrder.low; high = c.in-PlaceOrder.high; rate = c.in-PlaceOrder.rate; cap = c.in-PlaceOrder.cap; row = c.in-PlaceOrder.row } in
    let there = order_written c.args.bytes.now c.requires.written.0 (length c.as_slice.result.now) request (ap length c.as_slice.ensures) (rw c.in-PlaceOrder.is at c.requires.fits) (rw c.in-PlaceOrder.is at c.requires.written.1) in
    rw c.in-PlaceOrder.is (ap (Place None) (c.place_at.ensures request there))

pub place_at-requires-in-PlaceUntil : goal.place_at-requires-in-PlaceUntil
place_at-requires-in-PlaceUntil c =
    let request : Request = record { account = c.in-PlaceUntil.account; low = c.in-PlaceUntil.low; high = c.in-PlaceUntil.high; rate = c.in-PlaceUntil.rate; cap = c.in-PlaceUntil.cap; row = c.in-PlaceUntil.row } in
    let there = until_written c.args.bytes.now c.requires.written.0 (length c.as_slice-in-PlaceUntil.result.now) c.in-PlaceUntil.last request (ap length c.as_slice-in-PlaceUntil.ensures) (rw c.in-PlaceUntil.is at c.requires.fits) (rw c.in-PlaceUntil.is at c.requires.written.1) in
    (request, there)

pub returns-in-PlaceUntil : goal.returns-in-PlaceUntil
returns-in-PlaceUntil c =
    let request : Request = record { account = c.in-PlaceUntil.account; low = c.in-PlaceUntil.low; high = c.in-PlaceUntil.high; rate = c.in-PlaceUntil.rate; cap = c.in-PlaceUntil.cap; row = c.in-PlaceUntil.row } in
    let there = until_written c.args.bytes.now c.requires.written.0 (length c.as_slice-in-PlaceUntil.result.now) c.in-PlaceUntil.last request (ap length c.as_slice-in-PlaceUntil.ensures) (rw c.in-PlaceUntil.is at c.requires.fits) (rw c.in-PlaceUntil.is at c.requires.written.1) in
    rw c.in-PlaceUntil.is (ap (Place (Some c.in-PlaceUntil.last)) (c.place_at-in-PlaceUntil.ensures request there))
