-- The credit of an account after each command.
use Rattle.std.proofs.Common.{◌≡◌, ◌≢◌, ◌⊎◌, inl, inr, ℕ, zero, suc, ◌+◌, ◌-◌, ◌<◌, ◌≤◌, true, false, List, [], ◌∷◌, ◌++◌, length, map, get_or, Option, refl, sym, ap, ◌∙◌, arith}
use Rattle.std.specs.Prelude.{if◌then◌else◌}
use Rattle.std.proofs.lemmas.Bool.{cases_Bool, cases_lt}
use Rattle.std.proofs.lemmas.List.{length-map, get_or-set_same, get_or-set_other, get_or_push, get_or_past, get_or-map}
use Rattle.flow_accounts.specs.Balances.{IsAccount, account_count, asset_count, no_credit, with_credit_place, credited, credit_of, add_asset, open_account, set_credit}
use Rattle.market_rules.specs.Market.{Market, IsConsistent}
use Rattle.statement_rules.specs.Views.{is_there}
use Rattle.statement_rules.proofs.Told.{is_account, there_is}
use Rattle.std.proofs.lemmas.Bool.{true≢false}

-- an element that is pushed changes no other place
push_other : {X : Type 0} (xs : List X) (y d : X) (i : ℕ) → i ≢ length xs → get_or (xs ++ y ∷ []) i d ≡ get_or xs i d
push_other [] y d zero differs = absurd (differs refl)
push_other [] y d (suc i) differs = refl
push_other (x ∷ xs) y d zero differs = refl
push_other (x ∷ xs) y d (suc i) differs = push_other xs y d i (λ e. differs (omega (arith, e)))

module _ (m : Market) (account : ℕ) (some : 0 < account) (consistent : IsConsistent m) where
  lines_count : length m.balances.credits ≡ account_count m.balances
  lines_count = consistent.one_each.credits

  -- the credit that was set
  pub credit_is_set : (named : ℕ) (kind : Option ℕ) (count : ℕ) → IsAccount m.balances named → named ≡ account
      → credit_of (set_credit m.balances named kind count) account ≡ credited (credit_of m.balances account) kind count
  credit_is_set named kind count there same =
      let place : named - 1 < length m.balances.credits = omega (arith, there.0, there.1, lines_count) in
      ap (λ a. credit_of (set_credit m.balances named kind count) a) (sym same)
      ∙ get_or-set_same m.balances.credits (named - 1) (credited (credit_of m.balances named) kind count) (no_credit 0) place
      ∙ ap (λ a. credited (credit_of m.balances a) kind count) same

  pub other_credit_is_set : (named : ℕ) (kind : Option ℕ) (count : ℕ) → IsAccount m.balances named → named ≢ account
      → credit_of (set_credit m.balances named kind count) account ≡ credit_of m.balances account
  other_credit_is_set named kind count there differs =
      get_or-set_other m.balances.credits (named - 1) (account - 1) (credited (credit_of m.balances named) kind count) (no_credit 0) (λ e. differs (omega (arith, e, some, there.0)))

  -- after an asset was added
  pub asset_credit : credit_of (add_asset m.balances) account ≡ (if is_there m account then with_credit_place (credit_of m.balances account) else credit_of m.balances account)
  asset_credit = by (cases_Bool (is_there m account))
    where
      past : is_there m account ≡ false → length m.balances.credits ≤ account - 1
      past not_so = elim (cases_lt (account - 1) (length m.balances.credits)) [
        | inl inside ↦ absurd (true≢false (sym (there_is m account (some, omega (arith, some, inside, lines_count))) ∙ not_so))
        | inr outside ↦ outside
      ]

      by : (is_there m account ≡ true) ⊎ (is_there m account ≡ false)
          → credit_of (add_asset m.balances) account ≡ (if is_there m account then with_credit_place (credit_of m.balances account) else credit_of m.balances account)
      by (inl is_so) =
          let there = is_account m account is_so in
          rw is_so (get_or-map with_credit_place m.balances.credits (account - 1) (no_credit 0) (no_credit 0) (omega (arith, there.0, there.1, lines_count)))
      by (inr not_so) =
          let size : length (map with_credit_place m.balances.credits) ≤ account - 1 = omega (arith, past not_so, length-map m.balances.credits with_credit_place) in
          rw not_so (get_or_past (map with_credit_place m.balances.credits) (account - 1) (no_credit 0) size ∙ sym (get_or_past m.balances.credits (account - 1) (no_credit 0) (past not_so)))

  -- after an account was opened
  pub opened_credit : account_count m.balances + 1 ≡ account → credit_of (open_account m.balances) account ≡ no_credit (asset_count m.balances)
  opened_credit same = get_or_push m.balances.credits (no_credit (asset_count m.balances)) (no_credit 0) (account - 1) (omega (arith, same, lines_count))

  pub other_opened_credit : account_count m.balances + 1 ≢ account → credit_of (open_account m.balances) account ≡ credit_of m.balances account
  other_opened_credit differs = push_other m.balances.credits (no_credit (asset_count m.balances)) (no_credit 0) (account - 1) (λ e. differs (omega (arith, e, some, lines_count)))
