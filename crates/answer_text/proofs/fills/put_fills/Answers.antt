use Rattle.pair_text.proofs.Joining.{joined, on_ok}
use Rattle.answer_text.proofs.fills.put_fills.Goals as goal

pub returns-clause-put : goal.returns-clause-put
returns-clause-put c =
    on_ok c.put-2.result
    (λ last. joined c.args.out.now.text _ _ _ _ c.in_ok-put_number.ensures.put (joined c.put_number.new.self.text _ _ _ _ c.in_ok-put.ensures.put (joined c.put.new.self.text _ _ _ _ c.in_ok-put_items.ensures.put last))) c.put-2.ensures.put
