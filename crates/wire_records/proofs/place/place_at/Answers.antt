use Rattle.std.proofs.Common.{sym, subst}
use Rattle.wire_records.specs.Records.{AreBytes}
use Rattle.wire_records.specs.Commands.{Request}
use Rattle.wire_records.specs.Private.{IsRequestAt, EncodesRequest, HoldRequest}
use Rattle.wire_records.proofs.RequestPlaces.{holds_request, request_held, encodes_at, ends_within}
use Rattle.wire_records.proofs.place.place_at.Goals as goal

encodes : (c : goal.After-as_bytes) (request : Request) → IsRequestAt c.args.bytes.now c.args.place c.args.legs request → EncodesRequest c.as_bytes.result.now request
encodes c request is =
    subst (λ bytes. EncodesRequest bytes request) (sym c.as_bytes.ensures.value) (encodes_at c.args.bytes.now c.args.place c.args.legs request is)

holds : (c : goal.After-as_bytes) → HoldRequest c.as_bytes.result.now
holds c =
    let small = subst AreBytes (sym c.as_bytes.ensures.value) c.as_bytes.ensures.bytes in
    holds_request c.as_bytes.result.now c.requires.0 small (encodes c c.requires.0 c.requires.1)

pub slice_bounds-as_bytes-end : goal.slice_bounds-as_bytes-end
slice_bounds-as_bytes-end c = ends_within c.args.bytes.now c.args.place c.args.legs c.requires.0 c.requires.1

pub invariant_of-result : goal.invariant_of-result
invariant_of-result c = holds c

pub returns : goal.returns
returns c = λ request is. request_held c.as_bytes.result.now request (holds c) (encodes c request is)
