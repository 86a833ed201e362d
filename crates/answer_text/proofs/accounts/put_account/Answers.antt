use Rattle.std.proofs.Common.{◌≡◌, ◌++◌, codes, decimal}
use Rattle.std.specs.Fmt.{signed_decimal}
use Rattle.std.specs.Int.{w128}
use Rattle.std.proofs.lemmas.Int.{to_z-of_z}
use Rattle.flow_accounts.specs.Balances.{money_of, money_credit_of}
use Rattle.flow_orders.specs.Orders.{needed_money}
use Rattle.pair_text.proofs.Joining.{joined, on_ok}
use Rattle.answer_text.proofs.accounts.put_account.Goals as goal

pub returns-clause-put : goal.returns-clause-put
returns-clause-put c =
    let b = c.args.accounts.now in
    let money : c.put_number-2.new.self.text ≡ c.put_number.new.self.text ++ (codes ",\"money\":\"" ++ signed_decimal (money_of b c.args.account)) =
    rw (to_z-of_z w128 _ (record { sfits = c.money_held.type_inv }), c.money_held.ensures) at c.in_ok-put_number-2.ensures.put in
    let reserved : c.put_number-3.new.self.text ≡ c.put_number-2.new.self.text ++ (codes "\",\"reserved\":\"" ++ signed_decimal (needed_money c.args.book.now.orders c.args.account)) =
    rw (to_z-of_z w128 _ (record { sfits = c.money_needed.type_inv }), c.money_needed.ensures.value) at c.in_ok-put_number-3.ensures.put in
    let credit : c.put_number-4.new.self.text ≡ c.put_number-3.new.self.text ++ (codes "\",\"credit\":" ++ decimal (money_credit_of b c.args.account)) =
    rw c.money_credit.ensures at c.in_ok-put_number-4.ensures.put in
    on_ok c.put-3.result
    (λ last. joined c.args.out.now.text _ _ _ _ c.in_ok-put_number.ensures.put (joined c.put_number.new.self.text _ _ _ _ money (joined c.put_number-2.new.self.text _ _ _ _ reserved
    (joined c.put_number-3.new.self.text _ _ _ _ credit (joined c.put_number-4.new.self.text _ _ _ _ c.in_ok-put.ensures.put (joined c.put.new.self.text _ _ _ _ c.in_ok-put_holdings.ensures.put
    (joined c.put_holdings.new.out.text _ _ _ _ c.in_ok-put-2.ensures.put (joined c.put-2.new.self.text _ _ _ _ c.in_ok-put_orders.ensures.put last)))))))) c.put-3.ensures.put
