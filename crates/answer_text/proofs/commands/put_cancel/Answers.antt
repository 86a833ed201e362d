use Rattle.pair_text.proofs.Joining.{joined, on_ok}
use Rattle.answer_text.proofs.commands.put_cancel.Goals as goal

pub returns-clause-put : goal.returns-clause-put
returns-clause-put c = on_ok c.put_number-2.result (λ last. joined c.args.out.now.text _ _ _ _ c.in_ok-put_number.ensures.put last) c.put_number-2.ensures.put
