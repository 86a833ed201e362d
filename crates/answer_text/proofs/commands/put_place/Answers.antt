use Rattle.std.proofs.Common.{◌≡◌, ◌++◌, codes, decimal}
use Rattle.pair_text.proofs.Joining.{joined, on_ok}
use Rattle.answer_text.proofs.commands.put_place.Goals as goal

pub returns-clause-put : goal.returns-clause-put
returns-clause-put c =
    let account : c.put_number.new.self.text ≡ c.put_last.new.out.text ++ (codes "\"account\":" ++ decimal c.args.place.now.account) = rw c.account.ensures at c.in_ok-put_number.ensures.put in
    on_ok c.put_terms.result
    (λ last. joined c.args.out.now.text _ _ _ _ c.in_ok-put.ensures.put (joined c.put.new.self.text _ _ _ _ c.in_ok-put_last.ensures.put (joined c.put_last.new.out.text _ _ _ _ account (joined c.put_number.new.self.text _ _ _ _ c.in_ok-put-2.ensures.put last)))) c.put_terms.ensures.put
