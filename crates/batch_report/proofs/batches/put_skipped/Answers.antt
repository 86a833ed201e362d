use Rattle.std.proofs.Common.{◌≡◌, ◌++◌, codes, decimal, length}
use Rattle.std.specs.Fmt.{signed_decimal}
use Rattle.std.specs.Int.{w128}
use Rattle.std.proofs.lemmas.Int.{to_z-of_z}
use Rattle.pair_text.proofs.Joining.{joined, on_ok}
use Rattle.batch_report.proofs.batches.put_skipped.Goals as goal

pub returns-clause-put : goal.returns-clause-put
returns-clause-put c =
    let batch : c.put_number.new.self.text ≡ c.args.out.now.text ++ (codes "batch " ++ decimal c.args.view.now.batch) = rw c.batch.ensures at c.in_ok-put_number.ensures.put in
    let moves : c.put_number-2.new.self.text ≡ c.put_number.new.self.text ++ (codes " skipped moves " ++ decimal (length c.args.view.now.skipping.trace)) = rw c.trace.ensures.value at c.in_ok-put_number-2.ensures.put in
    let start : c.put_number-3.new.self.text ≡ c.put_number-2.new.self.text ++ (codes " duals " ++ signed_decimal c.args.view.now.skipping.start_dual) = rw (to_z-of_z w128 _ (record { sfits = c.start_dual.type_inv }), c.start_dual.ensures) at c.in_ok-put_number-3.ensures.put in
    let after : c.put_number-4.new.self.text ≡ c.put_number-3.new.self.text ++ (codes " " ++ signed_decimal c.args.view.now.skipping.end_dual) = rw (to_z-of_z w128 _ (record { sfits = c.end_dual.type_inv }), c.end_dual.ensures) at c.in_ok-put_number-4.ensures.put in
    on_ok c.put.result
    (λ last. joined c.args.out.now.text _ _ _ _ batch (joined c.put_number.new.self.text _ _ _ _ moves (joined c.put_number-2.new.self.text _ _ _ _ start (joined c.put_number-3.new.self.text _ _ _ _ after last)))) c.put.ensures.put
