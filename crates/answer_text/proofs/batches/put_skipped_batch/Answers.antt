use Rattle.std.proofs.Common.{◌≡◌, ◌++◌, codes, decimal}
use Rattle.pair_text.proofs.Joining.{joined, on_ok}
use Rattle.answer_text.proofs.batches.put_skipped_batch.Goals as goal

pub returns-clause-put : goal.returns-clause-put
returns-clause-put c =
    let batch : c.put_number.new.self.text ≡ c.args.out.now.text ++ (codes "\"do\":\"batch\",\"batch\":" ++ decimal c.args.view.now.batch) = rw c.batch.ensures at c.in_ok-put_number.ensures.put in
    on_ok c.put.result (λ last. joined c.args.out.now.text _ _ _ _ batch last) c.put.ensures.put
