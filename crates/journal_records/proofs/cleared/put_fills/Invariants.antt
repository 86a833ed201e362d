use Rattle.std.proofs.Common.{◌≡◌, ◌+◌, ◌*◌, length, vec_len, vec_capacity}
use Rattle.journal_records.proofs.Fills.{fills_of, AreWritten}
use Rattle.journal_records.proofs.cleared.put_fills.Given as goal

abbrev pub invariant-loop-order : goal.invariant-loop-order
invariant-loop-order l = record {
  written : AreWritten (fills_of l.orders l.rates) l.fn.out.items l.out.items (length l.yielded);
  len : vec_len l.out ≡ vec_len l.fn.out + 12 * length l.yielded;
  capacity : vec_capacity l.out ≡ vec_capacity l.fn.out;
}
