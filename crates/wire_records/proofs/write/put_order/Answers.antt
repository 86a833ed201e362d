use Rattle.std.proofs.Common.{◌+◌, ◌*◌, length, w64, sym}
use Rattle.std.proofs.lemmas.Int.{to_z-of_z}
use Rattle.wire_records.specs.Commands.{Request}
use Rattle.wire_records.specs.Bodies.{request_encoding}
use Rattle.wire_records.proofs.Requests.{request_size}
use Rattle.wire_records.proofs.Encoded.{head_and_body}
use Rattle.wire_records.proofs.write.put_order.Goals as goal

pub returns-clause-written : goal.returns-clause-written
returns-clause-written c =
    let r : Request = record { account = c.args.account; low = c.args.low; high = c.args.high; rate = c.args.rate; cap = c.args.cap; row = c.args.row.now } in
    let n = 33 + 6 * length c.args.row.now in
    rw (c.put_request.ensures.written, c.put_head.ensures.written)
    (rw (to_z-of_z w64 c.args.low c.ranges.low, to_z-of_z w64 c.args.high c.ranges.high) (head_and_body c.args.out.now.items (request_encoding r) 7 n (sym (request_size r))))
