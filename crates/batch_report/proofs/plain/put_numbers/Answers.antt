use Rattle.std.proofs.Common.{◌≡◌, ◌++◌, codes, decimal}
use Rattle.std.specs.Fmt.{signed_decimal}
use Rattle.std.specs.Int.{w64}
use Rattle.std.proofs.lemmas.Int.{to_z-of_z}
use Rattle.pair_text.proofs.Joining.{joined, on_ok}
use Rattle.batch_report.proofs.plain.put_numbers.Goals as goal

pub returns-clause-put : goal.returns-clause-put
returns-clause-put c =
    let account : c.put_number-2.new.self.text ≡ c.put_number.new.self.text ++ (codes " account " ++ decimal c.args.place.now.account) = rw c.account.ensures at c.in_ok-put_number-2.ensures.put in
    let low : c.put_number-3.new.self.text ≡ c.put_number-2.new.self.text ++ (codes " low " ++ signed_decimal c.args.place.now.low) = rw (to_z-of_z w64 _ (record { sfits = c.low.type_inv }), c.low.ensures) at c.in_ok-put_number-3.ensures.put in
    let high : c.put_number-4.new.self.text ≡ c.put_number-3.new.self.text ++ (codes " high " ++ signed_decimal c.args.place.now.high) = rw (to_z-of_z w64 _ (record { sfits = c.high.type_inv }), c.high.ensures) at c.in_ok-put_number-4.ensures.put in
    let rate : c.put_number-5.new.self.text ≡ c.put_number-4.new.self.text ++ (codes " rate " ++ decimal c.args.place.now.rate) = rw c.rate.ensures at c.in_ok-put_number-5.ensures.put in
    on_ok c.put_number-6.result
    (λ last. joined c.args.out.now.text _ _ _ _ c.in_ok-put_number.ensures.put (joined c.put_number.new.self.text _ _ _ _ account (joined c.put_number-2.new.self.text _ _ _ _ low (joined c.put_number-3.new.self.text _ _ _ _ high (joined c.put_number-4.new.self.text _ _ _ _ rate last))))) (rw c.cap.ensures at c.put_number-6.ensures.put)
