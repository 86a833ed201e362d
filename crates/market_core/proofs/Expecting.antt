-- The replies that the market would give, by the results that its accounts and its book would have.
use Rattle.market_rules.specs.Step.{NoOutcome}
use Rattle.std.proofs.Common.{◌≡◌, ℕ, inl, inr, Bool, true, false, IsTrue, Option, Result, Ok, Err, Some, None, OnOk, OnErr, IsOk, ◌↔◌, neg_ℤ, true≢false, refl, sym}
use Rattle.std.specs.Prelude.{IfErr}
use Rattle.wire_records.specs.Commands.{Deposit, Withdraw, CancelOrder, SetCredit}
use Rattle.wire_records.specs.declared.reply.Reply.{Reply}
use Rattle.wire_records.specs.declared.reply.Refusal.TheVariants.{NoOrder}
use Rattle.flow_accounts.specs.declared.fault.AccountFault.{AccountFault}
use Rattle.flow_accounts.specs.Balances.{Balances, IsAccount, value_of, change_balance, set_credit}
use Rattle.flow_accounts.specs.Answers.{AcceptsDeposit, RefusesDeposit, AcceptsWithdrawal, RefusesWithdrawal, AcceptsCredit, RefusesCredit}
use Rattle.flow_orders.specs.Orders.{needed}
use Rattle.order_book.specs.Book.{HasOrder, without}
use Rattle.market_rules.specs.Market.{Market}
use Rattle.market_core.specs.Expected.{IsExpected}
use Rattle.market_core.specs.Private.{cancel_reply}
use Rattle.market_core.proofs.Answering.{Replies, serves-deposit, serves-withdrawal, serves-credit}

-- the balances after a change if the result allows it, and else those before
made : {T : Type 0} (outcome : Result T AccountFault) (changed kept : Balances) → (now : Balances) × OnOk outcome (now ≡ changed) × OnErr outcome (now ≡ kept)
made (Ok x) changed kept = (changed, refl, tt)
made (Err why) changed kept = (kept, tt, refl)

module _ (m : Market) where
  pub expects-deposit : {T : Type 0} (account : ℕ) (kind : Option ℕ) (count : ℕ) (outcome : Result T AccountFault) (reply : Reply)
      → (IsOk outcome ↔ AcceptsDeposit m.balances account kind count) → IfErr outcome (RefusesDeposit m.balances account kind count)
      → Replies outcome reply → IsExpected m (Deposit account kind count) reply
  expects-deposit account kind count outcome reply accepted refused is =
      let now = made outcome (change_balance m.balances account kind (value_of kind count)) m.balances in
      (record m { balances = now.0 }, serves-deposit NoOutcome m now.0 account kind count outcome reply accepted refused now.1 now.2 is)

  pub expects-withdrawal : {T : Type 0} (account : ℕ) (kind : Option ℕ) (count : ℕ) (outcome : Result T AccountFault) (reply : Reply) → let reserved = needed m.orders account kind in
      (IsOk outcome ↔ AcceptsWithdrawal m.balances account kind count reserved) → IfErr outcome (RefusesWithdrawal m.balances account kind count reserved)
      → Replies outcome reply → IsExpected m (Withdraw account kind count) reply
  expects-withdrawal account kind count outcome reply accepted refused is =
      let now = made outcome (change_balance m.balances account kind (neg_ℤ (value_of kind count))) m.balances in
      (record m { balances = now.0 }, serves-withdrawal NoOutcome m now.0 account kind count outcome reply accepted refused now.1 now.2 is)

  pub expects-credit : {T : Type 0} (account : ℕ) (kind : Option ℕ) (count : ℕ) (outcome : Result T AccountFault) (reply : Reply) → let reserved = needed m.orders account kind in
      (IsOk outcome ↔ AcceptsCredit m.balances account kind count reserved) → IfErr outcome (RefusesCredit m.balances account kind count reserved)
      → Replies outcome reply → IsExpected m (SetCredit account kind count) reply
  expects-credit account kind count outcome reply accepted refused is =
      let now = made outcome (set_credit m.balances account kind count) m.balances in
      (record m { balances = now.0 }, serves-credit NoOutcome m now.0 account kind count outcome reply accepted refused now.1 now.2 is)

  -- the order would be cancelled, or there is no such order
  pub expects-cancel : (account number : ℕ) (there : Bool) → IsAccount m.balances account → (IsTrue there ↔ HasOrder m.orders account number)
      → IsExpected m (CancelOrder account number) (cancel_reply there)
  expects-cancel account number true opened is =
      (record m { orders = without m.orders number }, record { first = None; refused = inr (opened, inr (is.0 refl, refl)); answered = (refl, refl) })
  expects-cancel account number false opened is =
      (m, record { first = Some NoOrder; refused = inr (opened, inl (λ has. true≢false (sym (is.1 has)), refl)); answered = (refl, refl) })
