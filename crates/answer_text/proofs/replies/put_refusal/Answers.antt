use Rattle.std.proofs.Common.{◌≡◌, ◌++◌}
use Rattle.answer_text.specs.Answers.{refusal_name}
use Rattle.pair_text.proofs.Joining.{joined, on_ok}
use Rattle.answer_text.proofs.replies.put_refusal.Goals as goal

pub returns-clause-put : goal.returns-clause-put
returns-clause-put c =
    let name : c.put-2.new.self.text ≡ c.put.new.self.text ++ refusal_name c.args.refusal = rw c.refusal_name.ensures at c.in_ok-put-2.ensures.put in
    on_ok c.put-3.result (λ last. joined c.args.out.now.text _ _ _ _ c.in_ok-put.ensures.put (joined c.put.new.self.text _ _ _ _ name last)) c.put-3.ensures.put
