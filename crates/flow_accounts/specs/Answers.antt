-- Which result a call has. The causes of a call's faults and of its acceptance exclude one another, and one of them
-- always holds: so each result comes exactly if its cause holds. Only opening an account may run out of memory besides.
use Rattle.std.specs.Prelude.{◌≡◌, ℕ, ◌<◌, ◌≤◌, ℤ, ◌+ℤ◌, ◌-ℤ◌, ◌≤ℤ◌, ◌<ℤ◌, Option}
use Rattle.flow_accounts.specs.declared.fault.AccountFault.{AccountFault}
use Rattle.flow_accounts.specs.declared.fault.AccountFault.TheVariants.{NoAccount, NoAsset, Zero, TotalLimit, Full, NotFree, CreditLimit, InUse, Memory}
use Rattle.flow_accounts.specs.Balances.{Balances, IsAccount, IsKind, account_count, value_of, balance_of, total_of}
use Rattle.flow_accounts.specs.Lawful.{most_accounts, most_credit, total_limit}

-- why no account is opened: there are as many as there may be, or else memory ran out
abbrev pub RefusesAccount : Balances → AccountFault → Type 0
RefusesAccount b Full = account_count b ≡ most_accounts
RefusesAccount b Memory = account_count b < most_accounts
RefusesAccount b NoAccount = ⊥
RefusesAccount b NoAsset = ⊥
RefusesAccount b Zero = ⊥
RefusesAccount b TotalLimit = ⊥
RefusesAccount b (NotFree free) = ⊥
RefusesAccount b CreditLimit = ⊥
RefusesAccount b (InUse used) = ⊥

-- a deposit of so many ticks or units is accepted: its account and its asset are there, it isn't 0, and the total stays within its
-- limit
pub record AcceptsDeposit (b : Balances) (account : ℕ) (kind : Option ℕ) (count : ℕ) : Type 0 where
  pub account_there : IsAccount b account
  pub kind_there : IsKind b kind
  pub not_zero : 0 < count
  pub within_limit : (total_of b kind +ℤ value_of kind count) ≤ℤ total_limit kind

-- why a deposit isn't accepted
abbrev pub RefusesDeposit : Balances → ℕ → Option ℕ → ℕ → AccountFault → Type 0
RefusesDeposit b account kind count NoAccount = ¬ IsAccount b account
RefusesDeposit b account kind count NoAsset = IsAccount b account × (¬ IsKind b kind)
RefusesDeposit b account kind count Zero = IsAccount b account × IsKind b kind × (count ≡ 0)
RefusesDeposit b account kind count TotalLimit =
    IsAccount b account × IsKind b kind × (0 < count) × (total_limit kind <ℤ (total_of b kind +ℤ value_of kind count))
RefusesDeposit b account kind count Full = ⊥
RefusesDeposit b account kind count (NotFree free) = ⊥
RefusesDeposit b account kind count CreditLimit = ⊥
RefusesDeposit b account kind count (InUse used) = ⊥
RefusesDeposit b account kind count Memory = ⊥

-- a withdrawal of so many ticks or units is accepted: its account and its asset are there, it isn't 0, and so much isn't reserved
pub record AcceptsWithdrawal (b : Balances) (account : ℕ) (kind : Option ℕ) (count : ℕ) (reserved : ℤ) : Type 0 where
  pub account_there : IsAccount b account
  pub kind_there : IsKind b kind
  pub not_zero : 0 < count
  pub free : value_of kind count ≤ℤ (balance_of b account kind -ℤ reserved)

-- why a withdrawal isn't accepted
abbrev pub RefusesWithdrawal : Balances → ℕ → Option ℕ → ℕ → ℤ → AccountFault → Type 0
RefusesWithdrawal b account kind count reserved NoAccount = ¬ IsAccount b account
RefusesWithdrawal b account kind count reserved NoAsset = IsAccount b account × (¬ IsKind b kind)
RefusesWithdrawal b account kind count reserved Zero = IsAccount b account × IsKind b kind × (count ≡ 0)
RefusesWithdrawal b account kind count reserved (NotFree free) =
    IsAccount b account × IsKind b kind × (0 < count) ×
    (free ≡ balance_of b account kind -ℤ reserved) × (free <ℤ value_of kind count)
RefusesWithdrawal b account kind count reserved TotalLimit = ⊥
RefusesWithdrawal b account kind count reserved Full = ⊥
RefusesWithdrawal b account kind count reserved CreditLimit = ⊥
RefusesWithdrawal b account kind count reserved (InUse used) = ⊥
RefusesWithdrawal b account kind count reserved Memory = ⊥

-- a credit of so many ticks or units is accepted: its account and its asset are there, it isn't above its limit, and with the balance it
-- covers what is reserved
pub record AcceptsCredit (b : Balances) (account : ℕ) (kind : Option ℕ) (count : ℕ) (reserved : ℤ) : Type 0 where
  pub account_there : IsAccount b account
  pub kind_there : IsKind b kind
  pub within_limit : count ≤ most_credit
  pub covers : reserved ≤ℤ (balance_of b account kind +ℤ value_of kind count)

-- why a credit isn't accepted
abbrev pub RefusesCredit : Balances → ℕ → Option ℕ → ℕ → ℤ → AccountFault → Type 0
RefusesCredit b account kind count reserved NoAccount = ¬ IsAccount b account
RefusesCredit b account kind count reserved NoAsset = IsAccount b account × (¬ IsKind b kind)
RefusesCredit b account kind count reserved CreditLimit = IsAccount b account × IsKind b kind × (most_credit < count)
RefusesCredit b account kind count reserved (InUse used) =
    IsAccount b account × IsKind b kind × (count ≤ most_credit) ×
    (used ≡ reserved -ℤ balance_of b account kind) × (value_of kind count <ℤ used)
RefusesCredit b account kind count reserved Zero = ⊥
RefusesCredit b account kind count reserved TotalLimit = ⊥
RefusesCredit b account kind count reserved Full = ⊥
RefusesCredit b account kind count reserved (NotFree free) = ⊥
RefusesCredit b account kind count reserved Memory = ⊥
