use Rattle.std.proofs.Common.{◌≡◌, ◌+◌, ◌*◌, ◌++◌, length, length-append, append_assoc, w64, ◌∙◌, arith}
use Rattle.std.proofs.lemmas.Int.{to_z-of_z}
use Rattle.wire_fields.specs.Numbers.{unsigned}
use Rattle.wire_fields.proofs.Encoding.{length-unsigned}
use Rattle.wire_records.specs.Records.{head}
use Rattle.wire_records.specs.Commands.{Request}
use Rattle.wire_records.specs.Bodies.{request_encoding}
use Rattle.wire_records.proofs.Requests.{request_size}
use Rattle.wire_records.proofs.Encoded.{head_and_body}
use Rattle.wire_records.proofs.write.put_until.Goals as goal

pub returns-clause-written : goal.returns-clause-written
returns-clause-written c =
    let r : Request = record { account = c.args.account; low = c.args.low; high = c.args.high; rate = c.args.rate; cap = c.args.cap; row = c.args.row.now } in
    let n = 37 + 6 * length c.args.row.now in
    let last = unsigned 4 c.args.last in
    let size : n ≡ length (last ++ request_encoding r) = omega (arith, length-append last (request_encoding r), length-unsigned 4 c.args.last, request_size r) in
    rw (c.put_request.ensures.written, c.put_u32.ensures.written, c.put_head.ensures.written)
    (rw (to_z-of_z w64 c.args.low c.ranges.low, to_z-of_z w64 c.args.high c.ranges.high)
    (append_assoc (c.args.out.now.items ++ head 10 n) last (request_encoding r) ∙ head_and_body c.args.out.now.items (last ++ request_encoding r) 10 n size))
