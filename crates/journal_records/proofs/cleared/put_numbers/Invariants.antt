use Rattle.std.proofs.Common.{◌≡◌, ◌+◌, ◌*◌, ◌++◌, take, vec_len, vec_capacity}
use Rattle.std.specs.Prelude.{All}
use Rattle.std.specs.List.{flat_map}
use Rattle.wire_fields.specs.Numbers.{signed, IsSigned}
use Rattle.journal_records.proofs.cleared.put_numbers.Given as goal

abbrev pub invariant-loop-number : goal.invariant-loop-number
invariant-loop-number l = record {
  written : l.out.items ≡ l.fn.out.items ++ flat_map (signed 8) (take l.number-index l.numbers);
  fit : All (IsSigned 8) (take l.number-index l.numbers);
  len : vec_len l.out ≡ vec_len l.fn.out + 8 * l.number-index;
  capacity : vec_capacity l.out ≡ vec_capacity l.fn.out;
}
