use Rattle.std.proofs.Common.{refl, arith}
use Rattle.wire_records.proofs.Bodies.{encodes_none-from_request}
use Rattle.wire_records.proofs.Readings.{order_encoded}
use Rattle.wire_records.proofs.command.order_command.Goals as goal

pub returns-in-Some : goal.returns-in-Some
returns-in-Some c = order_encoded (record { tag = 7; body = c.args.body.now }) c.in-Some.place refl c.in-Some.ensures.found

pub returns-in-None : goal.returns-in-None
returns-in-None c = ((omega arith, omega arith), encodes_none-from_request (record { tag = 7; body = c.args.body.now }) refl c.in-None.ensures.none)
