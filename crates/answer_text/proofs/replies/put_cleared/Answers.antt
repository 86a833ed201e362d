use Rattle.std.proofs.Common.{◌≡◌, ◌++◌, codes, decimal}
use Rattle.std.specs.Fmt.{signed_decimal}
use Rattle.std.specs.Int.{w128}
use Rattle.std.proofs.lemmas.Int.{to_z-of_z}
use Rattle.pair_text.proofs.Joining.{joined, on_ok}
use Rattle.answer_text.proofs.replies.put_cleared.Goals as goal

pub returns-clause-put : goal.returns-clause-put
returns-clause-put c =
    let batch : c.put_number.new.self.text ≡ c.args.out.now.text ++ (codes ",\"batch\":" ++ decimal c.args.view.now.batch) = rw c.batch.ensures at c.in_ok-put_number.ensures.put in
    let gap : c.put_number-2.new.self.text ≡ c.put_number.new.self.text ++ (codes ",\"cleared\":true,\"gap\":\"" ++ signed_decimal c.args.view.now.clearing.gap) = rw (to_z-of_z w128 _ (record { sfits = c.gap.type_inv }), c.gap.ensures) at c.in_ok-put_number-2.ensures.put in
    on_ok c.put-2.result
    (λ last. joined c.args.out.now.text _ _ _ _ batch (joined c.put_number.new.self.text _ _ _ _ gap (joined c.put_number-2.new.self.text _ _ _ _ c.in_ok-put.ensures.put (joined c.put.new.self.text _ _ _ _ c.in_ok-put_residuals.ensures.put last)))) c.put-2.ensures.put
