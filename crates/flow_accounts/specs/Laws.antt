-- Laws of the operations on balances. The module `laws` has a function for each of these.
use Rattle.std.specs.Prelude.{◌≡◌, ℕ, ◌^◌, ℤ, pos, neg_ℤ, ◌+ℤ◌, ◌≤ℤ◌, Some, None}
use Rattle.flow_accounts.specs.Balances.{Balances, IsAccount, IsAsset, grains, money_of, units_of, money_credit_of, unit_credit_of, no_balances, open_account, add_asset, move_balance, change_balance, set_credit}
use Rattle.flow_accounts.specs.Changes.{OpensAccount, AddsAsset, ChangesMoneyOf, ChangesUnitsOf, ChangesTotalOf, SetsMoneyCreditOf, SetsUnitCreditOf}
use Rattle.flow_accounts.specs.Answers.{AcceptsCredit}
use Rattle.flow_accounts.specs.Fits.{AcceptedChangesFit, SumsAreNearTotals}
use Rattle.flow_accounts.specs.Lawful.{AreLawful}
use Rattle.flow_accounts.specs.Sums.{TotalsAreSums, money_of_all, units_of_all}

-- an account that is opened holds nothing and has no credit, and no balance, credit or sum changes
abbrev pub AccountsOpenEmpty : Type 0
AccountsOpenEmpty = (b : Balances) → AreLawful b → OpensAccount b (open_account b)

-- nobody holds a unit of an asset that is added or has credit in it, and no balance, credit or sum changes
abbrev pub AssetsStartAtZero : Type 0
AssetsStartAtZero = (b : Balances) → AreLawful b → AddsAsset b (add_asset b)

-- moving money changes one balance by the amount, and so the sum over all accounts
abbrev pub MoneyMoves : Type 0
MoneyMoves = (b : Balances) (account : ℕ) (amount : ℤ) → IsAccount b account →
    ChangesMoneyOf account amount b (move_balance b account None amount)

-- moving units changes one balance by the amount, and so the sum of their asset
abbrev pub UnitsMove : Type 0
UnitsMove = (b : Balances) (account asset : ℕ) (amount : ℤ) →
    AreLawful b → IsAccount b account → IsAsset b asset →
    ChangesUnitsOf account asset amount b (move_balance b account (Some asset) amount)

-- a deposit or withdrawal of money changes one balance by the amount, and so the sum over all accounts
abbrev pub MoneyChanges : Type 0
MoneyChanges = (b : Balances) (account : ℕ) (amount : ℤ) → IsAccount b account →
    ChangesMoneyOf account amount b (change_balance b account None amount)

-- a deposit or withdrawal of units changes one balance and one total by the amount, and so the sum of the asset
abbrev pub UnitsChange : Type 0
UnitsChange = (b : Balances) (account asset : ℕ) (amount : ℤ) →
    AreLawful b → IsAccount b account → IsAsset b asset →
    ChangesUnitsOf account asset amount b (change_balance b account (Some asset) amount) ×
    ChangesTotalOf asset amount b (change_balance b account (Some asset) amount)

-- totals that are the sums over all accounts stay so through openings, new assets, deposits and withdrawals
pub record TotalsStaySums : Type 0 where
  pub none : TotalsAreSums no_balances
  pub opened : (b : Balances) → TotalsAreSums b → TotalsAreSums (open_account b)
  pub asset : (b : Balances) → TotalsAreSums b → TotalsAreSums (add_asset b)
  pub money : (b : Balances) (account : ℕ) (amount : ℤ) → IsAccount b account →
      TotalsAreSums b → TotalsAreSums (change_balance b account None amount)
  pub units : (b : Balances) (account asset : ℕ) (amount : ℤ) →
      AreLawful b → IsAccount b account → IsAsset b asset →
      TotalsAreSums b → TotalsAreSums (change_balance b account (Some asset) amount)

-- setting a credit in money changes nothing else
abbrev pub MoneyCreditIsSet : Type 0
MoneyCreditIsSet = (b : Balances) (account ticks : ℕ) → AreLawful b → IsAccount b account →
    SetsMoneyCreditOf account ticks b (set_credit b account None ticks)

-- setting a credit in an asset changes nothing else
abbrev pub UnitCreditIsSet : Type 0
UnitCreditIsSet = (b : Balances) (account asset units : ℕ) → AreLawful b → IsAccount b account → IsAsset b asset →
    SetsUnitCreditOf account asset units b (set_credit b account (Some asset) units)

-- balances stay lawful when an accepted credit is set
pub record CreditsKeepLaw : Type 0 where
  pub money : (b : Balances) (account ticks : ℕ) (reserved : ℤ) → pos 0 ≤ℤ reserved →
      AreLawful b → AcceptsCredit b account None ticks reserved → AreLawful (set_credit b account None ticks)
  pub units : (b : Balances) (account asset units : ℕ) (reserved : ℤ) → pos 0 ≤ℤ reserved →
      AreLawful b → AcceptsCredit b account (Some asset) units reserved → AreLawful (set_credit b account (Some asset) units)

-- no balance is below minus its account's credit; without credit none is negative
pub record NoBalanceIsBelowItsCredit : Type 0 where
  pub money : (b : Balances) (account : ℕ) → AreLawful b → IsAccount b account →
      neg_ℤ (grains (money_credit_of b account)) ≤ℤ money_of b account
  pub units : (b : Balances) (account asset : ℕ) → AreLawful b → IsAccount b account → IsAsset b asset →
      neg_ℤ (pos (unit_credit_of b account asset)) ≤ℤ units_of b account asset
  pub no_money_credit : (b : Balances) (account : ℕ) → AreLawful b → IsAccount b account → money_credit_of b account ≡ 0 →
      pos 0 ≤ℤ money_of b account
  pub no_unit_credit : (b : Balances) (account asset : ℕ) → AreLawful b → IsAccount b account → IsAsset b asset → unit_credit_of b account asset ≡ 0 →
      pos 0 ≤ℤ units_of b account asset

-- no account holds more than all accounts together and the most that they may owe: 2^88 grains, and 2^56 units of an asset
pub record SumsBoundBalances : Type 0 where
  pub money : (b : Balances) (account : ℕ) → AreLawful b → IsAccount b account →
      money_of b account ≤ℤ (money_of_all b +ℤ pos (2 ^ 88))
  pub units : (b : Balances) (account asset : ℕ) → AreLawful b → IsAccount b account → IsAsset b asset →
      units_of b account asset ≤ℤ (units_of_all b asset +ℤ pos (2 ^ 56))

-- if what all accounts hold together is near the totals, each change that is accepted fits
abbrev pub ChangesFitNearSums : Type 0
ChangesFitNearSums = (b : Balances) → AreLawful b → SumsAreNearTotals b → AcceptedChangesFit b

-- if the totals are the sums over all accounts, each change that is accepted fits
abbrev pub ChangesFitAtSums : Type 0
ChangesFitAtSums = (b : Balances) → AreLawful b → TotalsAreSums b → AcceptedChangesFit b
