use Rattle.std.specs.Int.{w64}
use Rattle.std.proofs.lemmas.Int.{to_z-of_z}
use Rattle.pair_text.proofs.Joining.{joined, on_ok}
use Rattle.answer_text.proofs.replies.put_residual.Goals as goal

pub returns-clause-put : goal.returns-clause-put
returns-clause-put c =
    on_ok c.put_number.result
    (λ last. joined c.args.out.now.text _ _ _ _ c.in_ok-put_comma.ensures.put (joined c.put_comma.new.out.text _ _ _ _ c.in_ok-put_ticker.ensures.put last))
    (rw (to_z-of_z w64 _ (record { sfits = c.residual_at.type_inv }), c.residual_at.ensures) at c.put_number.ensures.put)
