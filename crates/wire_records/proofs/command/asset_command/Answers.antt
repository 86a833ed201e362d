use Rattle.std.proofs.Common.{inl, inr, arith, refl}
use Rattle.wire_records.specs.Records.{Record}
use Rattle.wire_records.specs.Bodies.{body_encoding}
use Rattle.wire_records.proofs.Readings.{bad_body, from_body}
use Rattle.wire_records.proofs.command.asset_command.Goals as goal

pub returns-in-4 : goal.returns-in-4
unfolding body_encoding
returns-in-4 c = from_body _ (record { tag = c.args.tag; body = c.args.body.now }) c.in-Some.ensures.fits (omega arith) c.in-Some.ensures.encoded

pub returns-in-6 : goal.returns-in-6
unfolding body_encoding
returns-in-6 c = from_body _ (record { tag = c.args.tag; body = c.args.body.now }) c.in-Some.ensures.fits (omega arith) c.in-Some.ensures.encoded

pub returns-in_default : goal.returns-in_default
unfolding body_encoding
returns-in_default c = from_body _ (record { tag = c.args.tag; body = c.args.body.now }) c.in-Some.ensures.fits (grind arith) c.in-Some.ensures.encoded

pub returns-in-None : goal.returns-in-None
returns-in-None c =
    let r : Record = record { tag = c.args.tag; body = c.args.body.now } in
    elim c.requires [
      | inl is ↦ bad_body r 4 14 is (omega arith, omega arith) (omega arith) (omega arith) refl c.in-None.ensures.other
      | inr (inl is) ↦ bad_body r 6 14 is (omega arith, omega arith) (omega arith) (omega arith) refl c.in-None.ensures.other
      | inr (inr is) ↦ bad_body r 12 14 is (omega arith, omega arith) (omega arith) (omega arith) refl c.in-None.ensures.other
    ]
