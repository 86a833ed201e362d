use Rattle.std.proofs.Common.{◌≡◌, ◌-◌, ◌++◌, take, replicate, vec_len, vec_capacity}
use Rattle.memory_io.proofs.bytes.cut_short.Given as goal

abbrev pub invariant-loop : goal.invariant-loop
invariant-loop l = record {
  torn : l.out.items ≡ take l.whole l.bytes ++ replicate (l.counter - l.whole) l.fill;
  len : vec_len l.out ≡ l.counter;
  capacity : vec_capacity l.out ≡ vec_capacity l.fn.out;
}
