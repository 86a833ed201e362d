use Rattle.std.proofs.Common.{inl, inr, arith, refl}
use Rattle.wire_records.specs.Records.{Record}
use Rattle.wire_records.specs.Bodies.{body_encoding}
use Rattle.wire_records.proofs.Readings.{bad_body, from_body}
use Rattle.wire_records.proofs.command.account_command.Goals as goal

pub returns-in-3 : goal.returns-in-3
unfolding body_encoding
returns-in-3 c = from_body _ (record { tag = c.args.tag; body = c.args.body.now }) c.in-Some.ensures.fits (omega arith) c.in-Some.ensures.encoded

pub returns-in-5 : goal.returns-in-5
unfolding body_encoding
returns-in-5 c = from_body _ (record { tag = c.args.tag; body = c.args.body.now }) c.in-Some.ensures.fits (omega arith) c.in-Some.ensures.encoded

pub returns-in-8 : goal.returns-in-8
unfolding body_encoding
returns-in-8 c = from_body _ (record { tag = c.args.tag; body = c.args.body.now }) c.in-Some.ensures.fits (omega arith) c.in-Some.ensures.encoded

pub returns-in_default : goal.returns-in_default
unfolding body_encoding
returns-in_default c = from_body _ (record { tag = c.args.tag; body = c.args.body.now }) c.in-Some.ensures.fits (grind arith) c.in-Some.ensures.encoded

pub returns-in-None : goal.returns-in-None
returns-in-None c =
    let r : Record = record { tag = c.args.tag; body = c.args.body.now } in
    elim c.requires [
      | inl is ↦ bad_body r 3 12 is (omega arith, omega arith) (omega arith) (omega arith) refl c.in-None.ensures.other
      | inr (inl is) ↦ bad_body r 5 12 is (omega arith, omega arith) (omega arith) (omega arith) refl c.in-None.ensures.other
      | inr (inr (inl is)) ↦ bad_body r 8 12 is (omega arith, omega arith) (omega arith) (omega arith) refl c.in-None.ensures.other
      | inr (inr (inr is)) ↦ bad_body r 11 12 is (omega arith, omega arith) (omega arith) (omega arith) refl c.in-None.ensures.other
    ]
