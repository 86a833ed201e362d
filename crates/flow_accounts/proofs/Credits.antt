-- What setting a credit changes, and that balances stay lawful when they change and when a credit is set.
use Rattle.std.proofs.Common.{◌≡◌, ℕ, ◌-◌, ◌^◌, ◌<◌, ◌≤◌, ℤ, pos, ◌+ℤ◌, ◌≤ℤ◌, ◌<ℤ◌, set, refl, ap, sym, subst, ⊎_elim, ◌∙◌, arith, Some, None}
use Rattle.std.proofs.lemmas.Int.{ints}
use Rattle.std.proofs.lemmas.Bool.{cases_eq}
use Rattle.std.proofs.lemmas.List.{get_or-set_same, get_or-set_other, length-set}
use Rattle.std.proofs.lemmas.List.Elements.{All-set}
use Rattle.flow_accounts.specs.Balances.{Credit, Balances, IsAccount, IsAsset, asset_count, no_credit, money_of, units_of, account_of, credit_of, credit_in, money_with_credit, units_with_credit, move_balance, set_credit}
use Rattle.flow_accounts.specs.Lawful.{AreLawful, IsLawfulAccount, IsLawfulCredit, IsMoneyBalance, IsUnitBalance, most_credit}
use Rattle.flow_accounts.specs.Laws.{MoneyCreditIsSet, UnitCreditIsSet, CreditsKeepLaw}
use Rattle.flow_accounts.proofs.Balance.{lawful_account, lawful_credit, credit_place, money_credit_most, unit_credit_most}
use Rattle.flow_accounts.proofs.ListLemmas.{get_or-set_kept}
use Rattle.flow_accounts.proofs.Moves.{money_moves, units_move}

-- ---- what changes

pub money_credit_is_set : MoneyCreditIsSet
money_credit_is_set b account ticks lawful there =
    let new : Credit = record (credit_of b account) { ticks = ticks } in
    record {
      accounts = refl;
      total_money = refl;
      total_units = refl;
      credit = ap (λ (c : Credit). c.ticks) (get_or-set_same b.credits (account - 1) new (no_credit 0) (credit_place b account lawful there));
      others = λ other other_there differs. ap (λ (c : Credit). c.ticks) (get_or-set_other b.credits (account - 1) (other - 1) new (no_credit 0) (λ e. differs (omega arith)));
      unit_credits = λ any asset. get_or-set_kept (λ (c : Credit). credit_in c (Some asset)) b.credits (account - 1) new (no_credit 0) (any - 1) refl;
    }

pub unit_credit_is_set : UnitCreditIsSet
unit_credit_is_set b account asset units lawful there is_asset =
    let c = credit_of b account in
    let new : Credit = record c { units = set c.units asset units } in
    let same : credit_of (set_credit b account (Some asset) units) account ≡ new = get_or-set_same b.credits (account - 1) new (no_credit 0) (credit_place b account lawful there) in
    record {
      accounts = refl;
      total_money = refl;
      total_units = refl;
      credit = ap (λ (c : Credit). credit_in c (Some asset)) same ∙ get_or-set_same c.units asset units 0 (subst (λ n. asset < n) (sym (lawful_credit b account lawful there).one_each) is_asset);
      other_assets = λ s differs. ap (λ (c : Credit). credit_in c (Some s)) same ∙ get_or-set_other c.units asset s units 0 differs;
      others = λ other s other_there differs. ap (λ (c : Credit). credit_in c (Some s)) (get_or-set_other b.credits (account - 1) (other - 1) new (no_credit 0) (λ e. differs (omega arith)));
      money_credits = λ any. get_or-set_kept (λ (c : Credit). c.ticks) b.credits (account - 1) new (no_credit 0) (any - 1) refl;
    }

-- ---- what stays lawful

-- a balance that stays within its credit isn't below minus the greatest one
pub money_after : (b : Balances) (account : ℕ) (amount : ℤ) → AreLawful b → IsAccount b account → pos 0 ≤ℤ (money_with_credit b account +ℤ amount)
    → (money_of b account +ℤ amount) <ℤ pos (2 ^ 124) → IsMoneyBalance (money_of b account +ℤ amount)
money_after b account amount lawful there within fits = (omega (arith, ints, within, money_credit_most b account lawful there), fits)

pub units_after : (b : Balances) (account asset : ℕ) (amount : ℤ) → AreLawful b → IsAccount b account → IsAsset b asset → pos 0 ≤ℤ (units_with_credit b account asset +ℤ amount)
    → (units_of b account asset +ℤ amount) <ℤ pos (2 ^ 62) → IsUnitBalance (units_of b account asset +ℤ amount)
units_after b account asset amount lawful there is_asset within fits = (omega (arith, ints, within, unit_credit_most b account asset lawful there is_asset), fits)

pub lawful-move_money : (b : Balances) (account : ℕ) (amount : ℤ) → AreLawful b → IsAccount b account → pos 0 ≤ℤ (money_with_credit b account +ℤ amount)
    → (money_of b account +ℤ amount) <ℤ pos (2 ^ 124) → AreLawful (move_balance b account None amount)
lawful-move_money b account amount lawful there within fits =
    let a = lawful_account b account lawful there in
    let moves = money_moves b account amount there in
    record {
      few_accounts = omega (arith, moves.accounts, lawful.few_accounts);
      few_assets = lawful.few_assets;
      accounts = All-set (IsLawfulAccount (asset_count b)) b.accounts (account - 1) _
          (record { money = money_after b account amount lawful there within fits; one_each = a.one_each; units = a.units }) lawful.accounts;
      one_credit_each = lawful.one_credit_each ∙ sym moves.accounts;
      credits = lawful.credits;
      within_credit = record {
        money = λ k there_now.
            let was : IsAccount b k = (there_now.0, omega (arith, there_now.1, moves.accounts)) in
            ⊎_elim
            (λ same. subst (λ j. pos 0 ≤ℤ money_with_credit (move_balance b account None amount) j) (sym same) (omega (arith, ints, moves.money, within)))
            (λ other. omega (arith, ints, moves.others k was other, lawful.within_credit.money k was))
            (cases_eq k account);
        units = λ k asset there_now is_asset.
            let was : IsAccount b k = (there_now.0, omega (arith, there_now.1, moves.accounts)) in
            omega (arith, ints, moves.units k asset, lawful.within_credit.units k asset was is_asset);
      };
      total_money = lawful.total_money;
      total_units = lawful.total_units;
    }

pub lawful-move_units : (b : Balances) (account asset : ℕ) (amount : ℤ) → AreLawful b → IsAccount b account → IsAsset b asset → pos 0 ≤ℤ (units_with_credit b account asset +ℤ amount)
    → (units_of b account asset +ℤ amount) <ℤ pos (2 ^ 62) → AreLawful (move_balance b account (Some asset) amount)
lawful-move_units b account asset amount lawful there is_asset within fits =
    let a = lawful_account b account lawful there in
    let new = move_balance b account (Some asset) amount in
    let moves = units_move b account asset amount lawful there is_asset in
    record {
      few_accounts = omega (arith, moves.accounts, lawful.few_accounts);
      few_assets = lawful.few_assets;
      accounts = All-set (IsLawfulAccount (asset_count b)) b.accounts (account - 1) _
          (record {
            money = a.money;
            one_each = length-set (account_of b account).units asset _ ∙ a.one_each;
            units = All-set IsUnitBalance (account_of b account).units asset _ (units_after b account asset amount lawful there is_asset within fits) a.units;
          }) lawful.accounts;
      one_credit_each = lawful.one_credit_each ∙ sym moves.accounts;
      credits = lawful.credits;
      within_credit = record {
        money = λ k there_now.
            let was : IsAccount b k = (there_now.0, omega (arith, there_now.1, moves.accounts)) in
            omega (arith, ints, moves.money k, lawful.within_credit.money k was);
        units = λ k s there_now is_asset_now.
            let was : IsAccount b k = (there_now.0, omega (arith, there_now.1, moves.accounts)) in
            ⊎_elim
            (λ same.
            ⊎_elim
            (λ same_asset. subst (λ j. pos 0 ≤ℤ units_with_credit new j s) (sym same)
            (subst (λ t. pos 0 ≤ℤ units_with_credit new account t) (sym same_asset) (omega (arith, ints, moves.units, within))))
            (λ other. subst (λ j. pos 0 ≤ℤ units_with_credit new j s) (sym same)
            (omega (arith, ints, moves.other_assets s other, lawful.within_credit.units account s there is_asset_now)))
            (cases_eq s asset))
            (λ other. omega (arith, ints, moves.others k s was other, lawful.within_credit.units k s was is_asset_now))
            (cases_eq k account);
      };
      total_money = lawful.total_money;
      total_units = lawful.total_units;
    }

pub credits_keep_law : CreditsKeepLaw
credits_keep_law = record {
  money = λ b account ticks reserved positive lawful accepted.
      let there = accepted.account_there in
      let sets = money_credit_is_set b account ticks lawful there in
      let c = lawful_credit b account lawful there in
      record {
        few_accounts = lawful.few_accounts;
        few_assets = lawful.few_assets;
        accounts = lawful.accounts;
        one_credit_each = length-set b.credits (account - 1) (record (credit_of b account) { ticks = ticks }) ∙ lawful.one_credit_each;
        credits = All-set (IsLawfulCredit (asset_count b)) b.credits (account - 1) _ (record { ticks = accepted.within_limit; one_each = c.one_each; units = c.units }) lawful.credits;
        within_credit = record {
          money = λ k is_there.
              ⊎_elim
              (λ same. subst (λ j. pos 0 ≤ℤ money_with_credit (set_credit b account None ticks) j) (sym same) (omega (arith, ints, sets.credit, accepted.covers, positive)))
              (λ other. omega (arith, ints, sets.others k is_there other, lawful.within_credit.money k is_there))
              (cases_eq k account);
          units = λ k asset is_there is_asset. omega (arith, ints, sets.unit_credits k asset, lawful.within_credit.units k asset is_there is_asset);
        };
        total_money = lawful.total_money;
        total_units = lawful.total_units;
      };
  units = λ b account asset units reserved positive lawful accepted.
      let there = accepted.account_there in
      let here = accepted.kind_there in
      let new = set_credit b account (Some asset) units in
      let sets = unit_credit_is_set b account asset units lawful there here in
      let c = lawful_credit b account lawful there in
      record {
        few_accounts = lawful.few_accounts;
        few_assets = lawful.few_assets;
        accounts = lawful.accounts;
        one_credit_each = length-set b.credits (account - 1) (record (credit_of b account) { units = set (credit_of b account).units asset units }) ∙ lawful.one_credit_each;
        credits = All-set (IsLawfulCredit (asset_count b)) b.credits (account - 1) _
            (record { ticks = c.ticks; one_each = length-set (credit_of b account).units asset units ∙ c.one_each; units = All-set (λ (u : ℕ). u ≤ most_credit) (credit_of b account).units asset units accepted.within_limit c.units }) lawful.credits;
        within_credit = record {
          money = λ k is_there. omega (arith, ints, sets.money_credits k, lawful.within_credit.money k is_there);
          units = λ k s is_there is_asset.
              ⊎_elim
              (λ same.
              ⊎_elim
              (λ same_asset. subst (λ j. pos 0 ≤ℤ units_with_credit new j s) (sym same)
              (subst (λ t. pos 0 ≤ℤ units_with_credit new account t) (sym same_asset) (omega (arith, ints, sets.credit, accepted.covers, positive))))
              (λ other. subst (λ j. pos 0 ≤ℤ units_with_credit new j s) (sym same)
              (omega (arith, ints, sets.other_assets s other, lawful.within_credit.units account s there is_asset)))
              (cases_eq s asset))
              (λ other. omega (arith, ints, sets.others k s is_there other, lawful.within_credit.units k s is_there is_asset))
              (cases_eq k account);
        };
        total_money = lawful.total_money;
        total_units = lawful.total_units;
      };
}
