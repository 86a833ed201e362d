use Rattle.std.proofs.Common.{refl, arith}
use Rattle.wire_records.specs.Bodies.{body_encoding}
use Rattle.wire_records.proofs.Readings.{bad_body, from_body}
use Rattle.wire_records.proofs.command.batch_command.Goals as goal

pub returns-in-Some : goal.returns-in-Some
unfolding body_encoding
returns-in-Some c = from_body _ (record { tag = 9; body = c.args.body.now }) c.in-Some.ensures.fits refl c.in-Some.ensures.encoded

pub returns-in-None : goal.returns-in-None
returns-in-None c = bad_body (record { tag = 9; body = c.args.body.now }) 9 4 refl (omega arith, omega arith) (omega arith) (omega arith) refl c.in-None.ensures.other
