use Rattle.std.proofs.Common.{◌≡◌, ◌++◌, List, ℕ, w64, append_assoc}
use Rattle.std.proofs.lemmas.Int.{to_z-of_z}
use Rattle.wire_records.specs.Bodies.{request_encoding}
use Rattle.wire_records.proofs.write.put_request.Goals as goal

-- what is written part by part is one body
joined : (old b c d e f g h : List ℕ) → ((((((old ++ b) ++ c) ++ d) ++ e) ++ f) ++ g) ++ h ≡ old ++ (b ++ (c ++ (d ++ (e ++ (f ++ (g ++ h))))))
joined old b c d e f g h = simp append_assoc

pub returns-clause-written : goal.returns-clause-written
unfolding request_encoding
returns-clause-written c =
    rw (c.put_entries.ensures.written, c.put_u8.ensures.written, c.put_u64.ensures.written, c.put_u32-2.ensures.written, c.put_i64-2.ensures.written, c.put_i64.ensures.written, c.put_u32.ensures.written)
    (rw (to_z-of_z w64 c.args.low c.ranges.low, to_z-of_z w64 c.args.high c.ranges.high) (joined c.args.out.now.items _ _ _ _ _ _ _))
