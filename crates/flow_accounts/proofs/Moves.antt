-- What each operation on balances changes.
use Rattle.std.proofs.Common.{◌≡◌, ◌≢◌, ℕ, ◌+◌, ◌-◌, ◌<◌, ℤ, pos, ◌+ℤ◌, List, [], ◌∷◌, ◌++◌, replicate, length, get_or, set, refl, ap, sym, subst, ◌∙◌, arith, Some}
use Rattle.std.proofs.lemmas.Int.{ints}
use Rattle.std.proofs.lemmas.List.{get_or-set_same, get_or-set_other, get_or_push, get_or_past, length-set, length-map, length_push}
use Rattle.std.specs.List.{All}
use Rattle.flow_accounts.specs.Balances.{Account, Credit, Balances, IsAccount, IsAsset, account_count, asset_count, empty_account, no_credit, with_asset, with_credit_place, account_of, credit_of, credit_in, units_in, total_units_of, open_account, add_asset}
use Rattle.flow_accounts.specs.Changes.{KeepsBalances}
use Rattle.flow_accounts.specs.Lawful.{AreLawful, IsLawfulAccount, IsLawfulCredit}
use Rattle.flow_accounts.specs.Laws.{AccountsOpenEmpty, AssetsStartAtZero, MoneyMoves, UnitsMove, MoneyChanges, UnitsChange}
use Rattle.flow_accounts.proofs.Balance.{lawful_account, lawful_credit}
use Rattle.list_sums.proofs.SumLemmas.{int_sum_by-push, int_sum_by-set, int_sum_by-set_same, int_sum_by-map_same, int_sum_by-zeros}
use Rattle.flow_accounts.proofs.ListLemmas.{any_of_one, get_or-push_same, get_or-map_same, get_or-set_kept, zero_at, zero_pushed}

-- an account that is there has its place
place : (b : Balances) (account : ℕ) → IsAccount b account → account - 1 < length b.accounts
place b account there = omega arith

-- the account that was written
account_of-set : (b : Balances) (account : ℕ) (a : Account) → IsAccount b account → get_or (set b.accounts (account - 1) a) (account - 1) (empty_account 0) ≡ a
account_of-set b account a there = get_or-set_same b.accounts (account - 1) a (empty_account 0) (place b account there)

-- an account other than the one that was written
account_of-set_other : (b : Balances) (account other : ℕ) (a : Account) → IsAccount b account → IsAccount b other → other ≢ account → get_or (set b.accounts (account - 1) a) (other - 1) (empty_account 0) ≡ account_of b other
account_of-set_other b account other a there other_there differs = get_or-set_other b.accounts (account - 1) (other - 1) a (empty_account 0) (λ e. differs (omega arith))

pub money_moves : MoneyMoves
money_moves b account amount there =
    let a = account_of b account in
    let new : Account = record a { money = a.money +ℤ amount } in
    record {
      credits = refl;
      accounts = length-set b.accounts (account - 1) new;
      assets = refl;
      money = ap (λ (x : Account). x.money) (account_of-set b account new there);
      others = λ other other_there differs. ap (λ (x : Account). x.money) (account_of-set_other b account other new there other_there differs);
      units = λ any asset. get_or-set_kept (λ (x : Account). units_in x asset) b.accounts (account - 1) new (empty_account 0) (any - 1) refl;
      money_sum = int_sum_by-set (λ (x : Account). x.money) b.accounts (account - 1) new (empty_account 0) amount (place b account there) refl;
      unit_sums = λ asset. int_sum_by-set_same (λ (x : Account). units_in x asset) b.accounts (account - 1) new (empty_account 0) (place b account there) refl;
    }

-- money and its total are changed
pub money_changes : MoneyChanges
money_changes b account amount there =
    let moves = money_moves b account amount there in
    record {
      credits = refl;
      accounts = moves.accounts;
      assets = moves.assets;
      money = moves.money;
      others = moves.others;
      units = moves.units;
      money_sum = moves.money_sum;
      unit_sums = moves.unit_sums;
    }

-- an asset that is there has its place in each account
unit_place : (b : Balances) (account asset : ℕ) → AreLawful b → IsAccount b account → IsAsset b asset → asset < length (account_of b account).units
unit_place b account asset lawful there is_asset = subst (λ n. asset < n) (sym (lawful_account b account lawful there).one_each) is_asset

pub units_move : UnitsMove
units_move b account asset amount lawful there is_asset =
    let a = account_of b account in
    let after : ℤ = units_in a asset +ℤ amount in
    let new : Account = record a { units = set a.units asset after } in
    let changed : units_in new asset ≡ units_in a asset +ℤ amount = get_or-set_same a.units asset after (pos 0) (unit_place b account asset lawful there is_asset) in
    let kept : (s : ℕ) → s ≢ asset → units_in new s ≡ units_in a s = λ s differs. get_or-set_other a.units asset s after (pos 0) differs in
    record {
      credits = refl;
      accounts = length-set b.accounts (account - 1) new;
      assets = refl;
      units = ap (λ (x : Account). units_in x asset) (account_of-set b account new there) ∙ changed;
      others = λ other s other_there differs. ap (λ (x : Account). units_in x s) (account_of-set_other b account other new there other_there differs);
      other_assets = λ s differs. ap (λ (x : Account). units_in x s) (account_of-set b account new there) ∙ kept s differs;
      money = λ any. get_or-set_kept (λ (x : Account). x.money) b.accounts (account - 1) new (empty_account 0) (any - 1) refl;
      unit_sum = int_sum_by-set (λ (x : Account). units_in x asset) b.accounts (account - 1) new (empty_account 0) amount (place b account there) changed;
      other_sums = λ s differs. int_sum_by-set_same (λ (x : Account). units_in x s) b.accounts (account - 1) new (empty_account 0) (place b account there) (kept s differs);
      money_sum = int_sum_by-set_same (λ (x : Account). x.money) b.accounts (account - 1) new (empty_account 0) (place b account there) refl;
    }

pub units_change : UnitsChange
units_change b account asset amount lawful there is_asset =
    let moves = units_move b account asset amount lawful there is_asset in
    let after : ℤ = total_units_of b asset +ℤ amount in (
      record {
        credits = refl;
        accounts = moves.accounts;
        assets = length-set b.totals.units asset after;
        units = moves.units;
        others = moves.others;
        other_assets = moves.other_assets;
        money = moves.money;
        unit_sum = moves.unit_sum;
        other_sums = moves.other_sums;
        money_sum = moves.money_sum;
      },
      record {
        total = get_or-set_same b.totals.units asset after (pos 0) is_asset;
        others = λ s differs. get_or-set_other b.totals.units asset s after (pos 0) differs;
        money = refl;
      },
    )

-- zeros are 0 at each place, and past their end
pub none_at : (n k : ℕ) → ◌≡◌ {A = ℕ} (get_or (replicate n 0) k 0) 0
none_at n k = any_of_one n k 0

-- opening an account changes no balance and no credit
pub opened_kept : (b : Balances) → KeepsBalances b (open_account b)
opened_kept b =
    let new = empty_account (asset_count b) in
    record {
      money = λ account. get_or-push_same (λ (x : Account). x.money) b.accounts new (empty_account 0) (account - 1) refl;
      units = λ account asset. get_or-push_same (λ (x : Account). units_in x asset) b.accounts new (empty_account 0) (account - 1) (zero_at (asset_count b) asset);
      money_credits = λ account. get_or-push_same (λ (c : Credit). c.ticks) b.credits (no_credit (asset_count b)) (no_credit 0) (account - 1) refl;
      unit_credits = λ account asset. get_or-push_same (λ (c : Credit). credit_in c (Some asset)) b.credits (no_credit (asset_count b)) (no_credit 0) (account - 1) (none_at (asset_count b) asset);
      money_sum = omega (arith, ints, int_sum_by-push (λ (x : Account). x.money) b.accounts new);
      unit_sums = λ asset. omega (arith, ints, int_sum_by-push (λ (x : Account). units_in x asset) b.accounts new, zero_at (asset_count b) asset);
    }

pub accounts_open_empty : AccountsOpenEmpty
accounts_open_empty b lawful =
    let new = empty_account (asset_count b) in
    let fresh = no_credit (asset_count b) in
    let grown : account_count (open_account b) ≡ account_count b + 1 = length_push b.accounts new in
    let last : account_of (open_account b) (account_count (open_account b)) ≡ new = get_or_push b.accounts new (empty_account 0) (account_count (open_account b) - 1) (omega arith) in
    let last_credit : credit_of (open_account b) (account_count (open_account b)) ≡ fresh = get_or_push b.credits fresh (no_credit 0) (account_count (open_account b) - 1) (omega (arith, grown, lawful.one_credit_each)) in
    record {
      kept = opened_kept b;
      accounts = grown;
      assets = refl;
      money = ap (λ (x : Account). x.money) last;
      units = λ asset. ap (λ (x : Account). units_in x asset) last ∙ zero_at (asset_count b) asset;
      money_credit = ap (λ (c : Credit). c.ticks) last_credit;
      unit_credits = λ asset. ap (λ (c : Credit). credit_in c (Some asset)) last_credit ∙ none_at (asset_count b) asset;
    }

-- a zero that is pushed changes no credit
none_pushed : (xs : List ℕ) (k : ℕ) → get_or (xs ++ 0 ∷ []) k 0 ≡ get_or xs k 0
none_pushed xs k = get_or-push_same (λ (u : ℕ). u) xs 0 0 k refl

-- adding an asset changes no balance and no credit
pub asset_kept : (b : Balances) → KeepsBalances b (add_asset b)
asset_kept b =
    let same : (s : ℕ) (a : Account) → units_in (with_asset a) s ≡ units_in a s = λ s a. zero_pushed a.units s in
    let same_credit : (s : ℕ) (c : Credit) → credit_in (with_credit_place c) (Some s) ≡ credit_in c (Some s) = λ s c. none_pushed c.units s in
    record {
      money = λ account. get_or-map_same (λ (x : Account). x.money) with_asset (λ a. refl) b.accounts (empty_account 0) (account - 1);
      units = λ account s. get_or-map_same (λ (x : Account). units_in x s) with_asset (same s) b.accounts (empty_account 0) (account - 1);
      money_credits = λ account. get_or-map_same (λ (c : Credit). c.ticks) with_credit_place (λ c. refl) b.credits (no_credit 0) (account - 1);
      unit_credits = λ account s. get_or-map_same (λ (c : Credit). credit_in c (Some s)) with_credit_place (same_credit s) b.credits (no_credit 0) (account - 1);
      money_sum = int_sum_by-map_same (λ (x : Account). x.money) with_asset (λ a. refl) b.accounts;
      unit_sums = λ s. int_sum_by-map_same (λ (x : Account). units_in x s) with_asset (same s) b.accounts;
    }

-- a lawful credit line has no credit past its assets
no_credit_past : (assets : ℕ) (c : Credit) → IsLawfulCredit assets c → credit_in c (Some assets) ≡ 0
no_credit_past assets c lawful = let one_each = lawful.one_each in get_or_past c.units assets 0 (omega arith)

-- a lawful account has no units past its assets
none_past : (assets : ℕ) (a : Account) → IsLawfulAccount assets a → units_in a assets ≡ pos 0
none_past assets a lawful = let one_each = lawful.one_each in get_or_past a.units assets (pos 0) (omega arith)

pub assets_start_at_zero : AssetsStartAtZero
assets_start_at_zero b lawful =
    let kept = asset_kept b in
    let none : All (λ (a : Account). units_in a (asset_count b) ≡ pos 0) b.accounts = λ k d within. none_past (asset_count b) _ (lawful.accounts k d within) in
    record {
      kept = kept;
      accounts = length-map b.accounts with_asset;
      assets = length_push b.totals.units (pos 0);
      units = λ account there. kept.units account (asset_count b) ∙ none_past (asset_count b) (account_of b account) (lawful_account b account lawful there);
      unit_credits = λ account there. kept.unit_credits account (asset_count b) ∙ no_credit_past (asset_count b) (credit_of b account) (lawful_credit b account lawful there);
      unit_sum = kept.unit_sums (asset_count b) ∙ int_sum_by-zeros (λ (x : Account). units_in x (asset_count b)) b.accounts none;
      total = get_or_push b.totals.units (pos 0) (pos 0) (asset_count b) refl;
      totals = zero_pushed b.totals.units;
    }
