use Rattle.std.proofs.Common.{◌≡◌, ◌++◌, codes}
use Rattle.std.specs.Fmt.{signed_decimal}
use Rattle.std.specs.Int.{w128}
use Rattle.std.proofs.lemmas.Int.{to_z-of_z}
use Rattle.pair_text.proofs.Joining.{joined, on_ok}
use Rattle.answer_text.proofs.questions.put_exchange.Goals as goal

pub returns-clause-put : goal.returns-clause-put
returns-clause-put c =
    let money : c.put_number.new.self.text ≡ c.args.out.now.text ++ (codes "\"ask\":\"exchange\",\"money\":\"" ++ signed_decimal c.args.money) = rw (to_z-of_z w128 _ c.ranges.money) at c.in_ok-put_number.ensures.put in
    on_ok c.put-2.result
    (λ last. joined c.args.out.now.text _ _ _ _ money (joined c.put_number.new.self.text _ _ _ _ c.in_ok-put.ensures.put (joined c.put.new.self.text _ _ _ _ c.in_ok-put_units.ensures.put last))) c.put-2.ensures.put
