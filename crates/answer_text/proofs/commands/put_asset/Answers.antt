use Rattle.pair_text.proofs.Joining.{joined, on_ok}
use Rattle.answer_text.proofs.commands.put_asset.Goals as goal

pub returns-clause-put : goal.returns-clause-put
returns-clause-put c = on_ok c.put_quoted.result (λ last. joined c.args.out.now.text _ _ _ _ c.in_ok-put.ensures.put last) (rw c.unpadded_len.ensures.name at c.put_quoted.ensures.put)
