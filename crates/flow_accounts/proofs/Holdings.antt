-- The balances that the fields of an `Accounts` represent while one account is written.
use Rattle.std.proofs.Common.{◌≡◌, ℕ, ◌-◌, ◌^◌, ◌<◌, ℤ, pos, ◌+ℤ◌, ◌≤ℤ◌, ◌<ℤ◌, length, get_or, set, refl, ap, sym, subst, ◌∙◌, arith, Some, None}
use Rattle.std.proofs.lemmas.Int.{ints}
use Rattle.std.proofs.lemmas.List.{map-set, get_or-map, length-map}
use Rattle.flow_accounts.specs.declared.Accounts.TheInside.{Inside}
use Rattle.flow_accounts.specs.Balances.{Account, Credit, Balances, IsAccount, IsAsset, account_of, credit_of, credit_in, empty_account, no_credit, money_of, units_of, money_credit_of, unit_credit_of, money_with_credit, units_with_credit, move_balance, set_credit}
use Rattle.flow_accounts.specs.Lines.{Line}
use Rattle.flow_accounts.specs.Answers.{AcceptsCredit}
use Rattle.flow_accounts.specs.Lawful.{AreLawful, IsMoneyBalance, IsUnitBalance}
use Rattle.flow_accounts.specs.Places.{account_in, credit_line_in, balances_in, AreKept}
use Rattle.flow_accounts.proofs.Balance.{money_balance, unit_balance, money_credit_most, unit_credit_most}
use Rattle.flow_accounts.proofs.Credits.{money_after, units_after, lawful-move_money, lawful-move_units, credits_keep_law}
use Rattle.flow_accounts.proofs.Standing.{StandsFor, asset_count-in}

-- the fields after one account was written
abbrev pub written : Inside → ℕ → Line ℤ ℤ → Inside
written a account l = record a { holdings = record (a.holdings) { lines = set a.holdings.lines (account - 1) l } }

-- the fields after the credits of one account were written
abbrev pub credited : Inside → ℕ → Line ℕ ℕ → Inside
credited a account l = record a { credits = record (a.credits) { lines = set a.credits.lines (account - 1) l } }

module _ (a : Inside) (account : ℕ) (kept : AreKept a) (there : IsAccount (balances_in a) account) where
  -- an account that is there has its line
  line_within : account - 1 < length a.holdings.lines
  line_within = let counts = length-map a.holdings.lines account_in in omega arith

  -- the credits of an account that is there have their line
  credit_within : account - 1 < length a.credits.lines
  credit_within =
      let counts = length-map a.holdings.lines account_in in
      let lines = length-map a.credits.lines credit_line_in in
      omega (arith, kept.lawful.one_credit_each)

  -- the line of an account is the account
  account_of-in : (d : Line ℤ ℤ) → account_of (balances_in a) account ≡ account_in (get_or a.holdings.lines (account - 1) d)
  account_of-in d = get_or-map account_in a.holdings.lines (account - 1) d (empty_account 0) line_within

  -- the credit line of an account is its credit
  credit_of-in : (d : Line ℕ ℕ) → credit_of (balances_in a) account ≡ credit_line_in (get_or a.credits.lines (account - 1) d)
  credit_of-in d = get_or-map credit_line_in a.credits.lines (account - 1) d (no_credit 0) credit_within

  -- an account is written, and the balances are lawful then
  kept_written : (new : Line ℤ ℤ) (b : Balances) → balances_in (written a account new) ≡ b → AreLawful b → StandsFor (written a account new) b
  kept_written new b shown lawful = record {
    kept = record {
      lawful = subst AreLawful (sym shown) lawful;
      few_assets = kept.few_assets;
      totals = kept.totals;
      none = kept.none;
      credits = kept.credits;
    };
    shown = shown;
  }

  -- the credits of an account are written, and the balances are lawful then
  kept_credited : (new : Line ℕ ℕ) (b : Balances) → balances_in (credited a account new) ≡ b → AreLawful b → StandsFor (credited a account new) b
  kept_credited new b shown lawful = record {
    kept = record {
      lawful = subst AreLawful (sym shown) lawful;
      few_assets = kept.few_assets;
      totals = kept.totals;
      none = kept.none;
      credits = kept.credits;
    };
    shown = shown;
  }

  -- the money of an account is changed, and the code computes z
  money_moved : (d : Line ℤ ℤ) (x z : ℤ) → pos 0 ≤ℤ (money_with_credit (balances_in a) account +ℤ x) → (money_of (balances_in a) account +ℤ x) <ℤ pos (2 ^ 124)
      → z ≡ money_of (balances_in a) account +ℤ x → StandsFor (written a account (record (get_or a.holdings.lines (account - 1) d) { money = z })) (move_balance (balances_in a) account None x)
  money_moved d x z within fits is =
      kept_written (record (get_or a.holdings.lines (account - 1) d) { money = z }) (move_balance (balances_in a) account None x)
      (rw (is, map-set, account_of-in d) refl)
      (lawful-move_money (balances_in a) account x kept.lawful there within fits)

  -- the units of an asset in an account are changed, and the code computes z
  units_moved : (d : Line ℤ ℤ) (asset : ℕ) (x z : ℤ) → IsAsset (balances_in a) asset → pos 0 ≤ℤ (units_with_credit (balances_in a) account asset +ℤ x) → (units_of (balances_in a) account asset +ℤ x) <ℤ pos (2 ^ 62)
      → z ≡ units_of (balances_in a) account asset +ℤ x
      → StandsFor (written a account (record (get_or a.holdings.lines (account - 1) d) { units = set (get_or a.holdings.lines (account - 1) d).units asset z })) (move_balance (balances_in a) account (Some asset) x)
  units_moved d asset x z is_asset within fits is =
      kept_written (record (get_or a.holdings.lines (account - 1) d) { units = set (get_or a.holdings.lines (account - 1) d).units asset z }) (move_balance (balances_in a) account (Some asset) x)
      (rw (is, map-set, account_of-in d) refl)
      (lawful-move_units (balances_in a) account asset x kept.lawful there is_asset within fits)

  -- the credit of an account in money is set
  money_credit_given : (d : Line ℕ ℕ) (ticks : ℕ) (reserved : ℤ) → pos 0 ≤ℤ reserved → AcceptsCredit (balances_in a) account None ticks reserved
      → StandsFor (credited a account (record (get_or a.credits.lines (account - 1) d) { money = ticks })) (set_credit (balances_in a) account None ticks)
  money_credit_given d ticks reserved positive accepted =
      kept_credited (record (get_or a.credits.lines (account - 1) d) { money = ticks }) (set_credit (balances_in a) account None ticks)
      (rw (map-set, credit_of-in d) refl)
      (credits_keep_law.money (balances_in a) account ticks reserved positive kept.lawful accepted)

  -- the credit of an account in an asset is set
  unit_credit_given : (d : Line ℕ ℕ) (asset units : ℕ) (reserved : ℤ) → pos 0 ≤ℤ reserved → AcceptsCredit (balances_in a) account (Some asset) units reserved
      → StandsFor (credited a account (record (get_or a.credits.lines (account - 1) d) { units = set (get_or a.credits.lines (account - 1) d).units asset units })) (set_credit (balances_in a) account (Some asset) units)
  unit_credit_given d asset units reserved positive accepted =
      kept_credited (record (get_or a.credits.lines (account - 1) d) { units = set (get_or a.credits.lines (account - 1) d).units asset units }) (set_credit (balances_in a) account (Some asset) units)
      (rw (map-set, credit_of-in d) refl)
      (credits_keep_law.units (balances_in a) account asset units reserved positive kept.lawful accepted)

module _ (a : Inside) (b : Balances) (account : ℕ) (kept : AreKept a) (view_is : balances_in a ≡ b) (there : IsAccount b account) where
  there_in : IsAccount (balances_in a) account
  there_in = subst (λ (b : Balances). IsAccount b account) (sym view_is) there

  lawful_there : AreLawful b
  lawful_there = subst AreLawful view_is kept.lawful

  -- the money of an account that is there
  pub money_is : (d : Line ℤ ℤ) → (get_or a.holdings.lines (account - 1) d).money ≡ money_of b account
  money_is d = ap (λ (o : Account). o.money) (sym (account_of-in a account kept there_in d)) ∙ ap (λ (b : Balances). money_of b account) view_is

  -- the units of an asset in an account that is there
  pub units_are : (d : Line ℤ ℤ) (asset : ℕ) → get_or (get_or a.holdings.lines (account - 1) d).units asset (pos 0) ≡ units_of b account asset
  units_are d asset = ap (λ (o : Account). get_or o.units asset (pos 0)) (sym (account_of-in a account kept there_in d)) ∙ ap (λ (b : Balances). units_of b account asset) view_is

  pub money_credit_is : (d : Line ℕ ℕ) → (get_or a.credits.lines (account - 1) d).money ≡ money_credit_of b account
  money_credit_is d = ap (λ (c : Credit). c.ticks) (sym (credit_of-in a account kept there_in d)) ∙ ap (λ (b : Balances). money_credit_of b account) view_is

  pub unit_credit_is : (d : Line ℕ ℕ) (asset : ℕ) → get_or (get_or a.credits.lines (account - 1) d).units asset 0 ≡ unit_credit_of b account asset
  unit_credit_is d asset = ap (λ (c : Credit). credit_in c (Some asset)) (sym (credit_of-in a account kept there_in d)) ∙ ap (λ (b : Balances). unit_credit_of b account asset) view_is

  -- its line is there, and so is that of its credits
  pub line_there : account - 1 < length a.holdings.lines
  line_there = line_within a account kept there_in

  pub credit_there : account - 1 < length a.credits.lines
  credit_there = credit_within a account kept there_in

  -- an asset that is there has its place in each line
  pub asset_there : (asset : ℕ) → IsAsset b asset → asset < a.holdings.assets
  asset_there asset is_asset = subst (λ n. asset < n) (asset_count-in a kept) (subst (λ (b : Balances). IsAsset b asset) (sym view_is) is_asset)

  pub credit_asset_there : (asset : ℕ) → IsAsset b asset → asset < a.credits.assets
  credit_asset_there asset is_asset = subst (λ n. asset < n) (sym kept.credits) (asset_there asset is_asset)

  pub balance_is : IsMoneyBalance (money_of b account)
  balance_is = money_balance b account lawful_there there

  pub unit_balance_is : (asset : ℕ) → IsAsset b asset → IsUnitBalance (units_of b account asset)
  unit_balance_is asset is_asset = unit_balance b account asset lawful_there there is_asset

  -- no balance of money and its credit are more than 2^125 grains together
  pub money_reach : money_with_credit b account ≤ℤ pos (2 ^ 125)
  money_reach = omega (arith, ints, balance_is.1, money_credit_most b account lawful_there there)

  pub units_reach : (asset : ℕ) → IsAsset b asset → units_with_credit b account asset ≤ℤ pos (2 ^ 63)
  units_reach asset is_asset = omega (arith, ints, (unit_balance_is asset is_asset).1, unit_credit_most b account asset lawful_there there is_asset)

  -- a balance after a change that is allowed
  pub money_then : (x : ℤ) → pos 0 ≤ℤ (money_with_credit b account +ℤ x) → (money_of b account +ℤ x) <ℤ pos (2 ^ 124) → IsMoneyBalance (money_of b account +ℤ x)
  money_then x within fits = money_after b account x lawful_there there within fits

  pub units_then : (asset : ℕ) (x : ℤ) → IsAsset b asset → pos 0 ≤ℤ (units_with_credit b account asset +ℤ x) → (units_of b account asset +ℤ x) <ℤ pos (2 ^ 62) → IsUnitBalance (units_of b account asset +ℤ x)
  units_then asset x is_asset within fits = units_after b account asset x lawful_there there is_asset within fits

  pub moved_money : (d : Line ℤ ℤ) (x z : ℤ) → pos 0 ≤ℤ (money_with_credit b account +ℤ x) → (money_of b account +ℤ x) <ℤ pos (2 ^ 124) → z ≡ money_of b account +ℤ x
      → StandsFor (written a account (record (get_or a.holdings.lines (account - 1) d) { money = z })) (move_balance b account None x)
  moved_money d x z within fits is =
      let P : Balances → Type 0 = λ b. pos 0 ≤ℤ (money_with_credit b account +ℤ x) → (money_of b account +ℤ x) <ℤ pos (2 ^ 124) → z ≡ money_of b account +ℤ x
      → StandsFor (written a account (record (get_or a.holdings.lines (account - 1) d) { money = z })) (move_balance b account None x) in
      subst P view_is (money_moved a account kept there_in d x z) within fits is

  pub moved_units : (d : Line ℤ ℤ) (asset : ℕ) (x z : ℤ) → IsAsset b asset → pos 0 ≤ℤ (units_with_credit b account asset +ℤ x) → (units_of b account asset +ℤ x) <ℤ pos (2 ^ 62) → z ≡ units_of b account asset +ℤ x
      → StandsFor (written a account (record (get_or a.holdings.lines (account - 1) d) { units = set (get_or a.holdings.lines (account - 1) d).units asset z })) (move_balance b account (Some asset) x)
  moved_units d asset x z is_asset within fits is =
      let P : Balances → Type 0 = λ b. IsAsset b asset → pos 0 ≤ℤ (units_with_credit b account asset +ℤ x) → (units_of b account asset +ℤ x) <ℤ pos (2 ^ 62) → z ≡ units_of b account asset +ℤ x
      → StandsFor (written a account (record (get_or a.holdings.lines (account - 1) d) { units = set (get_or a.holdings.lines (account - 1) d).units asset z })) (move_balance b account (Some asset) x) in
      subst P view_is (units_moved a account kept there_in d asset x z) is_asset within fits is

  pub given_money_credit : (d : Line ℕ ℕ) (ticks : ℕ) (reserved : ℤ) → pos 0 ≤ℤ reserved → AcceptsCredit b account None ticks reserved
      → StandsFor (credited a account (record (get_or a.credits.lines (account - 1) d) { money = ticks })) (set_credit b account None ticks)
  given_money_credit d ticks reserved positive accepted =
      let P : Balances → Type 0 = λ b. AcceptsCredit b account None ticks reserved → StandsFor (credited a account (record (get_or a.credits.lines (account - 1) d) { money = ticks })) (set_credit b account None ticks) in
      subst P view_is (money_credit_given a account kept there_in d ticks reserved positive) accepted

  pub given_unit_credit : (d : Line ℕ ℕ) (asset units : ℕ) (reserved : ℤ) → pos 0 ≤ℤ reserved → AcceptsCredit b account (Some asset) units reserved
      → StandsFor (credited a account (record (get_or a.credits.lines (account - 1) d) { units = set (get_or a.credits.lines (account - 1) d).units asset units })) (set_credit b account (Some asset) units)
  given_unit_credit d asset units reserved positive accepted =
      let P : Balances → Type 0 = λ b. AcceptsCredit b account (Some asset) units reserved
      → StandsFor (credited a account (record (get_or a.credits.lines (account - 1) d) { units = set (get_or a.credits.lines (account - 1) d).units asset units })) (set_credit b account (Some asset) units) in
      subst P view_is (unit_credit_given a account kept there_in d asset units reserved positive) accepted
