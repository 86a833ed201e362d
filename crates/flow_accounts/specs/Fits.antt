-- Which changes keep balances and totals within the ranges of the integers that hold them.
use Rattle.std.specs.Prelude.{ℕ, ◌^◌, ℤ, pos, neg_ℤ, ◌+ℤ◌, ◌≤ℤ◌, ◌<ℤ◌, Some, None}
use Rattle.flow_accounts.specs.Balances.{Balances, grains, money_of, units_of, total_units_of}
use Rattle.flow_accounts.specs.Answers.{AcceptsDeposit, AcceptsWithdrawal}
use Rattle.flow_accounts.specs.Sums.{money_of_all, units_of_all}

-- a change of money by the amount leaves the balance below 2^124 grains, and the total above -2^124
pub record MoneyFits (b : Balances) (account : ℕ) (amount : ℤ) : Type 0 where
  pub balance : (money_of b account +ℤ amount) <ℤ pos (2 ^ 124)
  pub total : neg_ℤ (pos (2 ^ 124)) <ℤ (b.totals.money +ℤ amount)

-- a change of units by the amount leaves the balance below 2^62 units, and the total above -2^62
pub record UnitsFit (b : Balances) (account asset : ℕ) (amount : ℤ) : Type 0 where
  pub balance : (units_of b account asset +ℤ amount) <ℤ pos (2 ^ 62)
  pub total : neg_ℤ (pos (2 ^ 62)) <ℤ (total_units_of b asset +ℤ amount)

-- each deposit and each withdrawal that is accepted fits
pub record AcceptedChangesFit (b : Balances) : Type 0 where
  pub money_deposit : (account ticks : ℕ) →
      AcceptsDeposit b account None ticks → MoneyFits b account (grains ticks)
  pub unit_deposit : (account asset units : ℕ) →
      AcceptsDeposit b account (Some asset) units → UnitsFit b account asset (pos units)
  pub money_withdrawal : (account ticks : ℕ) (reserved : ℤ) → pos 0 ≤ℤ reserved →
      AcceptsWithdrawal b account None ticks reserved → MoneyFits b account (neg_ℤ (grains ticks))
  pub unit_withdrawal : (account asset units : ℕ) (reserved : ℤ) → pos 0 ≤ℤ reserved →
      AcceptsWithdrawal b account (Some asset) units reserved → UnitsFit b account asset (neg_ℤ (pos units))

-- all accounts together hold at most 2^123 grains, and 2^61 units of an asset, more than the totals
pub record SumsAreNearTotals (b : Balances) : Type 0 where
  pub money : money_of_all b ≤ℤ (b.totals.money +ℤ pos (2 ^ 123))
  pub units : (asset : ℕ) → units_of_all b asset ≤ℤ (total_units_of b asset +ℤ pos (2 ^ 61))
