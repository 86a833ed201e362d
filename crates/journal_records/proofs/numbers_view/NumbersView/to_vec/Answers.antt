use Rattle.std.proofs.Common.{◌≡◌, ◌++◌, ◌∷◌, [], Some, w64, FitsSigned, vec_len, take, sym, ap, ◌∙◌, arith, rules}
use Rattle.std.specs.Prelude.{slice_get}
use Rattle.std.proofs.lemmas.Int.{to_z-of_z}
use Rattle.std.proofs.lemmas.List.{take_all}
use Rattle.journal_records.proofs.Values.{ended, read_more}
use Rattle.journal_records.proofs.numbers_view.NumbersView.to_vec.Goals as goal

pub loop-number-preserved : goal.loop-number-preserved
loop-number-preserved c =
    let all = c.args.self.now in
    let numbers = c.loop-number.numbers in
    let z = c.in-Some.number in
    let fits : FitsSigned w64 z = search rules in
    let read : Some z ≡ slice_get all (vec_len numbers) = c.in-Some.ensures ∙ ap (slice_get all) c.len-in-loop-number.ensures in
    record {
      read =
          rw (c.push_reserved.ensures.items, to_z-of_z w64 z fits)
          (ap (λ xs. xs ++ z ∷ []) c.loop-number.invariant.read
          ∙ sym (read_more all (vec_len numbers) z read) ∙ ap (λ n. take n all) (sym c.push_reserved.ensures.len));
      room = omega (arith, c.push_reserved.ensures.capacity, c.loop-number.invariant.room);
    }

pub returns : goal.returns
returns c =
    let all = c.args.self.now in
    let numbers = c.loop-number.numbers in
    let past = ended all (vec_len numbers) (c.in_default.ensures ∙ ap (slice_get all) c.len-in-loop-number.ensures) in
    c.loop-number.invariant.read ∙ take_all (vec_len numbers) all past
