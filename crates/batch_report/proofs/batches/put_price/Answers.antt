use Rattle.std.proofs.Common.{◌≡◌, ◌++◌, codes}
use Rattle.std.specs.Fmt.{signed_decimal}
use Rattle.std.specs.Int.{w64}
use Rattle.std.proofs.lemmas.Int.{to_z-of_z}
use Rattle.weight_rows.specs.Rows.{price_of}
use Rattle.flow_orders.specs.Residuals.{residual_in}
use Rattle.pair_text.proofs.Joining.{joined, on_ok}
use Rattle.batch_report.proofs.batches.put_price.Goals as goal

pub returns-clause-put : goal.returns-clause-put
returns-clause-put c =
    let price : c.put_number.new.self.text ≡ c.put_name.new.self.text ++ (codes " price " ++ signed_decimal (price_of c.args.view.now.clearing.prices c.args.asset)) = rw (to_z-of_z w64 _ (record { sfits = c.price_at.type_inv }), c.price_at.ensures) at c.in_ok-put_number.ensures.put in
    let left : c.put_number-2.new.self.text ≡ c.put_number.new.self.text ++ (codes " residual " ++ signed_decimal (residual_in c.args.view.now.clearing.residuals c.args.asset)) = rw (to_z-of_z w64 _ (record { sfits = c.residual_at.type_inv }), c.residual_at.ensures) at c.in_ok-put_number-2.ensures.put in
    on_ok c.put.result
    (λ last. joined c.args.out.now.text _ _ _ _ c.in_ok-put_name.ensures.put (joined c.put_name.new.self.text _ _ _ _ price (joined c.put_number.new.self.text _ _ _ _ left last))) c.put.ensures.put
