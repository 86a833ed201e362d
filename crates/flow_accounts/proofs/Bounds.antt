-- Sums bound balances, and so accepted changes fit.
use Rattle.std.proofs.Common.{ℕ, zero, suc, ◌-◌, ◌*◌, ◌^◌, ◌<◌, ℤ, pos, ◌+ℤ◌, ◌≤ℤ◌, List, [], ◌∷◌, length, get_or, sym, subst, arith}
use Rattle.std.specs.Prelude.{neg_ℤ}
use Rattle.std.specs.List.{AllByRecursion}
use Rattle.list_sums.specs.Sums.{int_sum_by}
use Rattle.std.proofs.lemmas.Int.{ints}
use Rattle.std.proofs.lemmas.List.Elements.{recursion_from_All}
use Rattle.flow_accounts.specs.Balances.{Account, asset_count, empty_account, units_in}
use Rattle.flow_accounts.specs.Lawful.{IsLawfulAccount, most_credit}
use Rattle.flow_accounts.specs.Laws.{NoBalanceIsBelowItsCredit, SumsBoundBalances, ChangesFitNearSums, ChangesFitAtSums}
use Rattle.flow_accounts.proofs.Balance.{money_balance, unit_balance, unit_total}

-- terms that aren't below minus c
module _ {X : Type 0} (f : X → ℤ) (c : ℕ) where
  -- their sum isn't below minus c for each of them
  sum_least : (xs : List X) → AllByRecursion (λ x. neg_ℤ (pos c) ≤ℤ f x) xs → neg_ℤ (pos (c * length xs)) ≤ℤ int_sum_by f xs
  sum_least [] all = omega (arith, ints)
  sum_least (x ∷ xs) all = omega (arith, ints, all.0, sum_least xs all.1)

  -- one of them is at most their sum and c for each of them
  pub at_most_sum : (xs : List X) (i : ℕ) (d : X) → AllByRecursion (λ x. neg_ℤ (pos c) ≤ℤ f x) xs → i < length xs → f (get_or xs i d) ≤ℤ (int_sum_by f xs +ℤ pos (c * length xs))
  at_most_sum [] i d all within = absurd (omega arith)
  at_most_sum (x ∷ xs) zero d all within = omega (arith, ints, sum_least xs all.1)
  at_most_sum (x ∷ xs) (suc i) d all within = omega (arith, ints, all.0, at_most_sum xs i d all.1 (omega arith))

-- a lawful account owes no more units of an asset than the greatest credit
units_least : (assets asset : ℕ) (a : Account) → IsLawfulAccount assets a → asset < assets → neg_ℤ (pos most_credit) ≤ℤ units_in a asset
units_least assets asset a lawful is_asset = (lawful.units asset (pos 0) (subst (λ n. asset < n) (sym lawful.one_each) is_asset)).0

pub no_balance_is_below_its_credit : NoBalanceIsBelowItsCredit
no_balance_is_below_its_credit = record {
  money = λ b account lawful there. let within = lawful.within_credit.money account there in omega (arith, ints, within);
  units = λ b account asset lawful there is_asset. let within = lawful.within_credit.units account asset there is_asset in omega (arith, ints, within);
  no_money_credit = λ b account lawful there none. let within = lawful.within_credit.money account there in omega (arith, ints, within, none);
  no_unit_credit = λ b account asset lawful there is_asset none. let within = lawful.within_credit.units account asset there is_asset in omega (arith, ints, within, none);
}

pub sums_bound_balances : SumsBoundBalances
sums_bound_balances = record {
  money = λ b account lawful there.
      let most = at_most_sum (λ (a : Account). a.money) (2 ^ 72) b.accounts (account - 1) (empty_account 0)
      (recursion_from_All (λ (a : Account). neg_ℤ (pos (2 ^ 72)) ≤ℤ a.money) b.accounts (λ k d within. let least = (lawful.accounts k d within).money.0 in omega (arith, ints, least))) (omega arith) in
      omega (arith, ints, most, lawful.few_accounts);
  units = λ b account asset lawful there is_asset.
      let most = at_most_sum (λ (a : Account). units_in a asset) (2 ^ 40) b.accounts (account - 1) (empty_account 0)
      (recursion_from_All (λ (a : Account). neg_ℤ (pos (2 ^ 40)) ≤ℤ units_in a asset) b.accounts (λ k d within. units_least (asset_count b) asset _ (lawful.accounts k d within) is_asset)) (omega arith) in
      omega (arith, ints, most, lawful.few_accounts);
}

pub changes_fit_near_sums : ChangesFitNearSums
changes_fit_near_sums b lawful near = record {
  money_deposit = λ account ticks accepted.
      let most = sums_bound_balances.money b account lawful accepted.account_there in
      let money = near.money in
      let total = lawful.total_money in
      record { balance = omega (arith, ints, accepted.within_limit); total = omega (arith, ints) };
  unit_deposit = λ account asset units accepted.
      let most = sums_bound_balances.units b account asset lawful accepted.account_there accepted.kind_there in
      let total = unit_total b asset lawful accepted.kind_there in
      let held = near.units asset in
      record { balance = omega (arith, ints, accepted.within_limit); total = omega (arith, ints) };
  money_withdrawal = λ account ticks reserved positive accepted.
      let most = sums_bound_balances.money b account lawful accepted.account_there in
      let balance = money_balance b account lawful accepted.account_there in
      let money = near.money in
      record { balance = omega (arith, ints); total = omega (arith, ints, accepted.free) };
  unit_withdrawal = λ account asset units reserved positive accepted.
      let most = sums_bound_balances.units b account asset lawful accepted.account_there accepted.kind_there in
      let balance = unit_balance b account asset lawful accepted.account_there accepted.kind_there in
      let held = near.units asset in
      record { balance = omega (arith, ints); total = omega (arith, ints, accepted.free) };
}

pub changes_fit_at_sums : ChangesFitAtSums
changes_fit_at_sums b lawful sums = changes_fit_near_sums b lawful (record {
  money = let money = sums.money in omega (arith, ints);
  units = λ asset. let units = sums.units asset in omega (arith, ints);
})
