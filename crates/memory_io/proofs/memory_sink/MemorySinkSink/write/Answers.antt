use Rattle.std.proofs.Common.{◌/◌, Result, Ok, Err, IsOk, OnOk, length, refl, arith}
use Rattle.memory_io.proofs.memory_sink.MemorySinkSink.write.Goals as goal

-- what holds if the result is Ok, of a result that is Ok
at_ok : {T E : Type 0} {P : Type 0} (result : Result T E) → IsOk result → OnOk result P → P
at_ok (Ok _) ok p = p
at_ok (Err _) ok p = cc

pub returns-then-next_fails-clause-cut : goal.returns-then-next_fails-clause-cut
returns-then-next_fails-clause-cut c =
    rw (← c.self.view_is) (length c.args.bytes.now / 2, omega arith, at_ok c.write.result c.write.ensures.succeeds c.write.ensures.written)

pub returns-then-next_fails-clause-cause : goal.returns-then-next_fails-clause-cause
returns-then-next_fails-clause-cause c =
    let count = c.if-next_fails.ensures.failed in
    rw (← c.self.view_is) (record { later = c.next_fails.ensures.later; rose = λ failed. rw count (omega arith); quiet = λ fine. absurd (fine refl) })
