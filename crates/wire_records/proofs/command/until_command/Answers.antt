use Rattle.std.proofs.Common.{refl, arith}
use Rattle.wire_records.proofs.Bodies.{encodes_none-from_until}
use Rattle.wire_records.proofs.Readings.{until_encoded}
use Rattle.wire_records.proofs.command.until_command.Goals as goal

pub returns-in-Some : goal.returns-in-Some
returns-in-Some c = until_encoded (record { tag = 10; body = c.args.body.now }) c.in-Some.last c.in-Some.place refl c.in-Some.ensures.found

pub returns-in-None : goal.returns-in-None
returns-in-None c = ((omega arith, omega arith), encodes_none-from_until (record { tag = 10; body = c.args.body.now }) refl c.in-None.ensures.none)
