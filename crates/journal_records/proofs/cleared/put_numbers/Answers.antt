use Rattle.std.proofs.Common.{pos, w64, FitsSigned, get_or, take, refl, ◌∙◌, arith, rules}
use Rattle.std.proofs.lemmas.Int.{to_z-of_z}
use Rattle.std.proofs.lemmas.List.Elements.{All-more}
use Rattle.std.proofs.lemmas.List.{take_more, flat_map_more}
use Rattle.wire_fields.specs.Numbers.{signed, IsSigned}
use Rattle.wire_fields.proofs.Encoding.{IsSigned-from_fits}
use Rattle.journal_records.proofs.cleared.put_numbers.Goals as goal

pub loop-number-preserved : goal.loop-number-preserved
loop-number-preserved c =
    let k = c.loop-number.number-index in
    let z = get_or c.args.numbers.now k (pos 0) in
    let fits : FitsSigned w64 z = search rules in
    record {
      written =
          rw (c.put_i64.ensures.written, to_z-of_z w64 z fits, c.loop-number.invariant.written, take_more c.args.numbers.now k (pos 0) c.loop-number-test.true)
          (flat_map_more (signed 8) c.args.out.now.items (take k c.args.numbers.now) z);
      fit = All-more (IsSigned 8) c.args.numbers.now k (pos 0) c.loop-number-test.true c.loop-number.invariant.fit (IsSigned-from_fits 8 w64 refl z fits);
      len = omega (arith, c.loop-number.invariant.len, c.put_i64.ensures.len);
      capacity = c.put_i64.ensures.capacity ∙ c.loop-number.invariant.capacity;
    }
