use Rattle.std.proofs.Common.{sym, subst, arith}
use Rattle.wire_records.specs.Records.{AreBytes}
use Rattle.wire_records.specs.Private.{HoldRequest, EncodesRequest, EncodesNoRequest, request_in}
use Rattle.wire_records.proofs.RequestsTold.{none-from_few, none_there, request_there}
use Rattle.wire_records.proofs.place.place_in.Goals as goal

pub returns-then-bytes-lt-ROW-clause-none : goal.returns-then-bytes-lt-ROW-clause-none
returns-then-bytes-lt-ROW-clause-none c =
    subst EncodesNoRequest c.as_bytes-bytes.ensures.value (none-from_few c.as_bytes-bytes.result.now c.if-bytes-lt-ROW.true)

pub returns-then-bytes-legs-clause-none : goal.returns-then-bytes-legs-clause-none
returns-then-bytes-legs-clause-none c =
    let small = subst AreBytes (sym c.as_bytes-bytes.ensures.value) c.as_bytes-bytes.ensures.bytes in
    subst EncodesNoRequest c.as_bytes-bytes.ensures.value
    (none_there c.as_bytes-bytes.result.now small c.if-bytes-lt-ROW.false (λ size. c.if-bytes-legs.true (omega (arith, size, c.from-legs.ensures, c.u8_at.ensures))))

holds : (c : goal.Else-bytes-legs) → HoldRequest c.as_bytes-bytes.result.now
holds c = record {
  small = subst AreBytes (sym c.as_bytes-bytes.ensures.value) c.as_bytes-bytes.ensures.bytes;
  size = omega (arith, c.if-bytes-legs.false, c.from-legs.ensures, c.u8_at.ensures);
}

pub invariant_of-result : goal.invariant_of-result
invariant_of-result c = holds c

pub returns-clause-found : goal.returns-clause-found
returns-clause-found c =
    let bytes = c.as_bytes-bytes.result.now in
    subst (λ body. EncodesRequest body (request_in bytes)) c.as_bytes-bytes.ensures.value (request_there bytes (holds c))
