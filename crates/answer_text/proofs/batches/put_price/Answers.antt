use Rattle.std.proofs.Common.{◌≡◌, ◌++◌, codes}
use Rattle.std.specs.Fmt.{signed_decimal}
use Rattle.std.specs.Int.{w64}
use Rattle.std.proofs.lemmas.Int.{to_z-of_z}
use Rattle.weight_rows.specs.Rows.{price_of}
use Rattle.pair_text.proofs.Joining.{joined, on_ok}
use Rattle.answer_text.proofs.batches.put_price.Goals as goal

pub returns-clause-put : goal.returns-clause-put
returns-clause-put c =
    let price : c.put_number.new.self.text ≡ c.put_ticker.new.out.text ++ (codes ":\"" ++ signed_decimal (price_of c.args.view.now.clearing.prices c.args.asset)) = rw (to_z-of_z w64 _ (record { sfits = c.price_at.type_inv }), c.price_at.ensures) at c.in_ok-put_number.ensures.put in
    on_ok c.put.result
    (λ last. joined c.args.out.now.text _ _ _ _ c.in_ok-put_comma.ensures.put (joined c.put_comma.new.out.text _ _ _ _ c.in_ok-put_ticker.ensures.put (joined c.put_ticker.new.out.text _ _ _ _ price last))) c.put.ensures.put
