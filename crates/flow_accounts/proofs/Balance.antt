-- Each balance and each total of lawful balances is within its limits.
use Rattle.std.proofs.Common.{ℕ, ◌-◌, ◌<◌, ◌≤◌, length, sym, subst, pos, arith}
use Rattle.flow_accounts.specs.Balances.{Balances, IsAccount, IsAsset, empty_account, no_credit, money_of, units_of, account_of, credit_of, money_credit_of, unit_credit_of, total_units_of, asset_count}
use Rattle.flow_accounts.specs.Lawful.{AreLawful, IsLawfulAccount, IsLawfulCredit, IsMoneyBalance, IsUnitBalance, IsUnitTotal, most_credit}

pub lawful_account : (b : Balances) (account : ℕ) → AreLawful b → IsAccount b account → IsLawfulAccount (asset_count b) (account_of b account)
lawful_account b account lawful there = lawful.accounts (account - 1) (empty_account 0) (omega arith)

pub money_balance : (b : Balances) (account : ℕ) → AreLawful b → IsAccount b account → IsMoneyBalance (money_of b account)
money_balance b account lawful there = (lawful_account b account lawful there).money

pub unit_balance : (b : Balances) (account asset : ℕ) → AreLawful b → IsAccount b account → IsAsset b asset → IsUnitBalance (units_of b account asset)
unit_balance b account asset lawful there is_asset =
    let a = lawful_account b account lawful there in
    a.units asset (pos 0) (subst (λ n. asset < n) (sym a.one_each) is_asset)

pub unit_total : (b : Balances) (asset : ℕ) → AreLawful b → IsAsset b asset → IsUnitTotal (total_units_of b asset)
unit_total b asset lawful is_asset = lawful.total_units asset (pos 0) is_asset

-- the credit line of an account that is there has its place
pub credit_place : (b : Balances) (account : ℕ) → AreLawful b → IsAccount b account → account - 1 < length b.credits
credit_place b account lawful there = omega (arith, lawful.one_credit_each, there.0, there.1)

pub lawful_credit : (b : Balances) (account : ℕ) → AreLawful b → IsAccount b account → IsLawfulCredit (asset_count b) (credit_of b account)
lawful_credit b account lawful there = lawful.credits (account - 1) (no_credit 0) (credit_place b account lawful there)

-- no credit is above the greatest one
pub money_credit_most : (b : Balances) (account : ℕ) → AreLawful b → IsAccount b account → money_credit_of b account ≤ most_credit
money_credit_most b account lawful there = (lawful_credit b account lawful there).ticks

pub unit_credit_most : (b : Balances) (account asset : ℕ) → AreLawful b → IsAccount b account → IsAsset b asset → unit_credit_of b account asset ≤ most_credit
unit_credit_most b account asset lawful there is_asset =
    let c = lawful_credit b account lawful there in
    c.units asset 0 (subst (λ n. asset < n) (sym c.one_each) is_asset)
