use Rattle.std.proofs.Common.{◌≡◌, ◌++◌, codes, decimal, length}
use Rattle.std.specs.Fmt.{signed_decimal}
use Rattle.std.specs.Int.{w64}
use Rattle.std.proofs.lemmas.Int.{to_z-of_z}
use Rattle.pair_text.proofs.Joining.{joined, on_ok}
use Rattle.answer_text.specs.Texts.{listed}
use Rattle.answer_text.specs.Answers.{leg_member}
use Rattle.answer_text.specs.Accounts.{ticks_of}
use Rattle.answer_text.proofs.Separating.{ticks_are}
use Rattle.answer_text.proofs.accounts.put_terms.Goals as goal

pub returns-clause-put : goal.returns-clause-put
returns-clause-put c =
    let order = c.args.order.now in
    let low : c.put_number.new.self.text ≡ c.args.out.now.text ++ (codes "\"low\":" ++ signed_decimal (ticks_of order.low)) =
    rw (to_z-of_z w64 _ (record { sfits = c.low.type_inv }), ticks_are order.low c.low.result c.low.ensures.value) at c.in_ok-put_number.ensures.put in
    let high : c.put_number-2.new.self.text ≡ c.put_number.new.self.text ++ (codes ",\"high\":" ++ signed_decimal (ticks_of order.high)) =
    rw (to_z-of_z w64 _ (record { sfits = c.high.type_inv }), ticks_are order.high c.high.result c.high.ensures.value) at c.in_ok-put_number-2.ensures.put in
    let rate : c.put_number-3.new.self.text ≡ c.put_number-2.new.self.text ++ (codes ",\"rate\":" ++ decimal order.rate) = rw c.rate.ensures.value at c.in_ok-put_number-3.ensures.put in
    let cap : c.put_number-4.new.self.text ≡ c.put_number-3.new.self.text ++ (codes ",\"cap\":" ++ decimal order.cap) = rw c.cap.ensures.value at c.in_ok-put_number-4.ensures.put in
    let legs : c.put_legs.new.out.text ≡ c.put.new.self.text ++ listed (leg_member c.args.tickers.now order.row) (length order.row) = rw (c.entries.ensures.value, c.row.ensures.value) at c.in_ok-put_legs.ensures.put in
    on_ok c.put-2.result
    (λ last. joined c.args.out.now.text _ _ _ _ low (joined c.put_number.new.self.text _ _ _ _ high (joined c.put_number-2.new.self.text _ _ _ _ rate (joined c.put_number-3.new.self.text _ _ _ _ cap
    (joined c.put_number-4.new.self.text _ _ _ _ c.in_ok-put.ensures.put (joined c.put.new.self.text _ _ _ _ legs last)))))) c.put-2.ensures.put
