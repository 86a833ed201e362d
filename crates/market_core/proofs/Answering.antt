-- The market's replies, by the results of its accounts and its tickers.
use Rattle.std.proofs.Common.{◌≡◌, ℕ, inl, inr, Option, Result, Ok, Err, Some, None, OnOk, OnErr, IsOk, ◌↔◌, refl, ap, arith}
use Rattle.std.specs.Prelude.{IfErr, MatchResult, neg_ℤ}
use Rattle.std.proofs.lemmas.Int.{ints}
use Rattle.wire_records.specs.Commands.{Command, Deposit, Withdraw, SetCredit, Plain}
use Rattle.wire_records.specs.declared.reply.Reply.{Reply}
use Rattle.wire_records.specs.declared.reply.Reply.TheVariants.{Done, Refused}
use Rattle.wire_records.specs.declared.reply.Refusal.{Refusal}
use Rattle.wire_records.specs.declared.reply.Refusal.TheVariants as refusals
use Rattle.flow_accounts.specs.declared.fault.AccountFault.{AccountFault}
use Rattle.flow_accounts.specs.declared.fault.AccountFault.TheVariants as fault
use Rattle.flow_accounts.specs.Balances.{Balances, value_of, change_balance, set_credit}
use Rattle.flow_accounts.specs.Answers.{AcceptsDeposit, RefusesDeposit, AcceptsWithdrawal, RefusesWithdrawal, AcceptsCredit, RefusesCredit}
use Rattle.flow_orders.specs.Outcomes.{BatchRule}
use Rattle.flow_orders.specs.Orders.{needed}
use Rattle.market_rules.specs.Market.{Market}
use Rattle.market_rules.specs.Step.{FirstRefusal, Accepts, Serves, gives}
use Rattle.market_core.specs.Private.{refusal_for}

-- the reply for the result of a change of an account
abbrev pub Replies : {T : Type 0} → Result T AccountFault → Reply → Type 0
Replies outcome reply = MatchResult outcome (λ _. reply ≡ Done) (λ why. reply ≡ Refused (refusal_for why))

module _ (Rule : BatchRule) (m : Market) (now : Balances) where
  abbrev made : Market
  made = record m { balances = now }

  -- a command is served, by the result of a change of an account: when it is accepted, why it isn't, and what there is then
  abbrev pub IsServed : {T : Type 0} → Command → Type 0 → (AccountFault → Type 0) → Balances → Result T AccountFault → Reply → Type 0
  IsServed c IsAccepted IsRefused changed outcome reply =
      (IsOk outcome ↔ IsAccepted) → IfErr outcome IsRefused → OnOk outcome (now ≡ changed) → OnErr outcome (now ≡ m.balances) → Replies outcome reply → Serves Rule m c (Plain reply) made

  -- when the command is accepted, it is done with these balances
  abbrev Makes : Command → Balances → Type 0
  Makes c changed = (reply : Reply) → gives (Plain Done) (record m { balances = changed }) (Plain reply) made → Accepts Rule m c (Plain reply) made

  accepted_by : {c : Command} {changed : Balances} → Makes c changed → (reply : Reply) → FirstRefusal m c None → reply ≡ Done → now ≡ changed → Serves Rule m c (Plain reply) made
  accepted_by makes reply none is ok = record { first = None; refused = none; answered = makes reply (ap Plain is, ap (λ b. record m { balances = b }) ok) }

  refused_by : (c : Command) (reply : Reply) (refusal : Refusal) → FirstRefusal m c (Some refusal) → reply ≡ Refused refusal → now ≡ m.balances → Serves Rule m c (Plain reply) made
  refused_by c reply refusal first is err = record { first = Some refusal; refused = first; answered = (ap Plain is, ap (λ b. record m { balances = b }) err) }

  module _ (account : ℕ) where
    makes_deposit : (kind : Option ℕ) (count : ℕ) → Makes (Deposit account kind count) (change_balance m.balances account kind (value_of kind count))
    makes_deposit kind count reply given = given

    makes_withdrawal : (kind : Option ℕ) (count : ℕ) → Makes (Withdraw account kind count) (change_balance m.balances account kind (neg_ℤ (value_of kind count)))
    makes_withdrawal kind count reply given = given

    makes_credit : (kind : Option ℕ) (count : ℕ) → Makes (SetCredit account kind count) (set_credit m.balances account kind count)
    makes_credit kind count reply given = given

    pub serves-deposit : {T : Type 0} (kind : Option ℕ) (count : ℕ) (outcome : Result T AccountFault) (reply : Reply)
        → IsServed (Deposit account kind count) (AcceptsDeposit m.balances account kind count) (RefusesDeposit m.balances account kind count) (change_balance m.balances account kind (value_of kind count)) outcome reply
    serves-deposit kind count (Ok x) reply accepted refused ok err is =
        let a = accepted.0 refl in
        accepted_by (makes_deposit kind count) reply (inr (a.account_there, inr (a.kind_there, inr (λ zero. omega (arith, zero, a.not_zero), inr (λ over. omega (arith, ints, over, a.within_limit), refl))))) is ok
    serves-deposit kind count (Err fault.NoAccount) reply accepted refused ok err is = refused_by (Deposit account kind count) reply refusals.NoAccount (inl (refused, refl)) is err
    serves-deposit kind count (Err fault.NoAsset) reply accepted refused ok err is = refused_by (Deposit account kind count) reply refusals.NoAsset (inr (refused.0, inl (refused.1, refl))) is err
    serves-deposit kind count (Err fault.Zero) reply accepted refused ok err is = refused_by (Deposit account kind count) reply refusals.ZeroAmount (inr (refused.0, inr (refused.1, inl (refused.2, refl)))) is err
    serves-deposit kind count (Err fault.TotalLimit) reply accepted refused ok err is =
        refused_by (Deposit account kind count) reply refusals.TotalLimit (inr (refused.0, inr (refused.1, inr (λ zero. omega (arith, zero, refused.2), inl (refused.3, refl))))) is err
    serves-deposit kind count (Err fault.Full) reply accepted refused ok err is = absurd refused
    serves-deposit kind count (Err (fault.NotFree free)) reply accepted refused ok err is = absurd refused
    serves-deposit kind count (Err fault.CreditLimit) reply accepted refused ok err is = absurd refused
    serves-deposit kind count (Err (fault.InUse used)) reply accepted refused ok err is = absurd refused
    serves-deposit kind count (Err fault.Memory) reply accepted refused ok err is = absurd refused

    -- a withdrawal: what the orders of the account need is reserved
    pub serves-withdrawal : {T : Type 0} (kind : Option ℕ) (count : ℕ) (outcome : Result T AccountFault) (reply : Reply) → let reserved = needed m.orders account kind in
        IsServed (Withdraw account kind count) (AcceptsWithdrawal m.balances account kind count reserved) (RefusesWithdrawal m.balances account kind count reserved) (change_balance m.balances account kind (neg_ℤ (value_of kind count))) outcome reply
    serves-withdrawal kind count (Ok x) reply accepted refused ok err is =
        let a = accepted.0 refl in
        accepted_by (makes_withdrawal kind count) reply (inr (a.account_there, inr (a.kind_there, inr (λ zero. omega (arith, zero, a.not_zero), inr (λ over. omega (arith, ints, over, a.free), refl))))) is ok
    serves-withdrawal kind count (Err fault.NoAccount) reply accepted refused ok err is = refused_by (Withdraw account kind count) reply refusals.NoAccount (inl (refused, refl)) is err
    serves-withdrawal kind count (Err fault.NoAsset) reply accepted refused ok err is = refused_by (Withdraw account kind count) reply refusals.NoAsset (inr (refused.0, inl (refused.1, refl))) is err
    serves-withdrawal kind count (Err fault.Zero) reply accepted refused ok err is = refused_by (Withdraw account kind count) reply refusals.ZeroAmount (inr (refused.0, inr (refused.1, inl (refused.2, refl)))) is err
    serves-withdrawal kind count (Err (fault.NotFree free)) reply accepted refused ok err is =
        refused_by (Withdraw account kind count) reply refusals.NotFree
        (inr (refused.0, inr (refused.1, inr (λ zero. omega (arith, zero, refused.2), inl (omega (arith, ints, refused.3, refused.4), refl))))) is err
    serves-withdrawal kind count (Err fault.TotalLimit) reply accepted refused ok err is = absurd refused
    serves-withdrawal kind count (Err fault.Full) reply accepted refused ok err is = absurd refused
    serves-withdrawal kind count (Err fault.CreditLimit) reply accepted refused ok err is = absurd refused
    serves-withdrawal kind count (Err (fault.InUse used)) reply accepted refused ok err is = absurd refused
    serves-withdrawal kind count (Err fault.Memory) reply accepted refused ok err is = absurd refused

    -- a credit: what the orders of the account need is reserved
    pub serves-credit : {T : Type 0} (kind : Option ℕ) (count : ℕ) (outcome : Result T AccountFault) (reply : Reply) → let reserved = needed m.orders account kind in
        IsServed (SetCredit account kind count) (AcceptsCredit m.balances account kind count reserved) (RefusesCredit m.balances account kind count reserved) (set_credit m.balances account kind count) outcome reply
    serves-credit kind count (Ok x) reply accepted refused ok err is =
        let a = accepted.0 refl in
        accepted_by (makes_credit kind count) reply (inr (a.account_there, inr (a.kind_there, inr (λ above. omega (arith, above, a.within_limit), inr (λ short. omega (arith, ints, short, a.covers), refl))))) is ok
    serves-credit kind count (Err fault.NoAccount) reply accepted refused ok err is = refused_by (SetCredit account kind count) reply refusals.NoAccount (inl (refused, refl)) is err
    serves-credit kind count (Err fault.NoAsset) reply accepted refused ok err is = refused_by (SetCredit account kind count) reply refusals.NoAsset (inr (refused.0, inl (refused.1, refl))) is err
    serves-credit kind count (Err fault.CreditLimit) reply accepted refused ok err is = refused_by (SetCredit account kind count) reply refusals.CreditLimit (inr (refused.0, inr (refused.1, inl (refused.2, refl)))) is err
    serves-credit kind count (Err (fault.InUse used)) reply accepted refused ok err is =
        refused_by (SetCredit account kind count) reply refusals.CreditInUse
        (inr (refused.0, inr (refused.1, inr (λ above. omega (arith, above, refused.2), inl (omega (arith, ints, refused.3, refused.4), refl))))) is err
    serves-credit kind count (Err fault.Zero) reply accepted refused ok err is = absurd refused
    serves-credit kind count (Err fault.TotalLimit) reply accepted refused ok err is = absurd refused
    serves-credit kind count (Err fault.Full) reply accepted refused ok err is = absurd refused
    serves-credit kind count (Err (fault.NotFree free)) reply accepted refused ok err is = absurd refused
    serves-credit kind count (Err fault.Memory) reply accepted refused ok err is = absurd refused
