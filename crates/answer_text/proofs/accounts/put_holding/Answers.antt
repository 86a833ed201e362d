use Rattle.std.proofs.Common.{◌≡◌, ◌++◌, codes, decimal}
use Rattle.std.specs.Fmt.{signed_decimal}
use Rattle.std.specs.Int.{w64, w128}
use Rattle.std.proofs.lemmas.Int.{to_z-of_z}
use Rattle.flow_accounts.specs.Balances.{units_of, unit_credit_of}
use Rattle.flow_orders.specs.Orders.{needed_units}
use Rattle.pair_text.proofs.Joining.{joined, on_ok}
use Rattle.answer_text.proofs.accounts.put_holding.Goals as goal

pub returns-clause-put : goal.returns-clause-put
returns-clause-put c =
    let units : c.put_number.new.self.text ≡ c.put_ticker.new.out.text ++ (codes ":[" ++ signed_decimal (units_of c.args.accounts.now c.args.account c.args.asset)) =
    rw (to_z-of_z w64 _ (record { sfits = c.units_held.type_inv }), c.units_held.ensures) at c.in_ok-put_number.ensures.put in
    let needed : c.put_number-2.new.self.text ≡ c.put_number.new.self.text ++ (codes "," ++ signed_decimal (needed_units c.args.book.now.orders c.args.account c.args.asset)) =
    rw (to_z-of_z w128 _ (record { sfits = c.units_needed.type_inv }), c.units_needed.ensures.value) at c.in_ok-put_number-2.ensures.put in
    let credit : c.put_number-3.new.self.text ≡ c.put_number-2.new.self.text ++ (codes "," ++ decimal (unit_credit_of c.args.accounts.now c.args.account c.args.asset)) =
    rw c.unit_credit.ensures at c.in_ok-put_number-3.ensures.put in
    on_ok c.put.result
    (λ last. joined c.args.out.now.text _ _ _ _ c.in_ok-put_comma.ensures.put (joined c.put_comma.new.out.text _ _ _ _ c.in_ok-put_ticker.ensures.put (joined c.put_ticker.new.out.text _ _ _ _ units
    (joined c.put_number.new.self.text _ _ _ _ needed (joined c.put_number-2.new.self.text _ _ _ _ credit last))))) c.put.ensures.put
