use Rattle.std.proofs.Common.{◌≡◌, ◌++◌, codes, decimal}
use Rattle.wire_records.specs.Versions.{number_of}
use Rattle.pair_text.proofs.Joining.{joined, on_ok}
use Rattle.answer_text.proofs.questions.put_market.Goals as goal

pub returns-clause-put : goal.returns-clause-put
returns-clause-put c =
    let version : c.put_number.new.self.text ≡ c.args.out.now.text ++ (codes "\"ask\":\"market\",\"version\":" ++ decimal (number_of c.args.version)) = rw c.number.ensures at c.in_ok-put_number.ensures.put in
    on_ok c.put-2.result
    (λ last. joined c.args.out.now.text _ _ _ _ version (joined c.put_number.new.self.text _ _ _ _ c.in_ok-put_number-2.ensures.put (joined c.put_number-2.new.self.text _ _ _ _ c.in_ok-put.ensures.put
    (joined c.put.new.self.text _ _ _ _ c.in_ok-put_prices.ensures.put last)))) c.put-2.ensures.put
