-- The settled balances settle all trades.
use Rattle.std.proofs.Common.{◌≡◌, ℕ, ◌-◌, ℤ, pos, ◌+ℤ◌, ◌-ℤ◌, List, length, refl, ap, ◌∙◌, arith}
use Rattle.std.specs.Prelude.{All, slice_index_or}
use Rattle.std.specs.List.{range_with_len}
use Rattle.std.proofs.lemmas.List.{length-map}
use Rattle.std.proofs.lemmas.List.Elements.{All-map}
use Rattle.std.proofs.lemmas.List.FromFn.{length-range_with_len, get_or-map-range_with_len}
use Rattle.flow_accounts.specs.Balances.{Account, Balances, IsAccount, IsAsset, account_count, asset_count, account_of, empty_account, money_of, units_of, units_in}
use Rattle.flow_orders.specs.Orders.{own_sum}
use Rattle.flow_orders.specs.Trades.{Trade, trader, paid, received, residual}
use Rattle.fill_caps.specs.Settlement.{settled_account, settled_balances, settled_exchange}
use Rattle.fill_caps.specs.Settles.{Settles}

module _ (prices : List ℤ) (ts : List Trade) (b : Balances) (exchange : Account) where
  settled_at : (account : ℕ) → IsAccount b account → account_of (settled_balances prices ts b) account ≡ settled_account prices ts b account
  settled_at account there = get_or-map-range_with_len (settled_account prices ts b) 1 (account_count b) (account - 1) account (empty_account 0) (omega (arith, there.0, there.1)) (omega (arith, there.0))

  money_at : (account : ℕ) → (settled_account prices ts b account).money ≡ money_of b account -ℤ own_sum trader account (paid prices) ts
  unfolding settled_account
  money_at account = refl

  units_at : (account asset : ℕ) → IsAsset b asset → units_in (settled_account prices ts b account) asset ≡ units_of b account asset +ℤ own_sum trader account (received asset) ts
  unfolding settled_account
  units_at account asset is_asset = get_or-map-range_with_len (λ s. units_of b account s +ℤ own_sum trader account (received s) ts) 0 (asset_count b) asset asset (pos 0) is_asset (omega arith)

  units_count : (account : ℕ) → length (settled_account prices ts b account).units ≡ asset_count b
  unfolding settled_account
  units_count account = length-map (range_with_len 0 (asset_count b)) (λ s. units_of b account s +ℤ own_sum trader account (received s) ts) ∙ length-range_with_len 0 (asset_count b)

  pub settles : Settles prices ts b (settled_balances prices ts b) exchange (settled_exchange prices ts b exchange)
  settles = record {
    accounts = length-map (range_with_len 1 (account_count b)) (settled_account prices ts b) ∙ length-range_with_len 1 (account_count b);
    credits = refl;
    totals = refl;
    money = λ account there. ap (λ (a : Account). a.money) (settled_at account there) ∙ money_at account;
    units = λ account asset there is_asset. ap (λ (a : Account). units_in a asset) (settled_at account there) ∙ units_at account asset is_asset;
    exchange_money = refl;
    exchange_units = λ asset is_asset. get_or-map-range_with_len (λ s. units_in exchange s -ℤ residual ts s) 0 (asset_count b) asset asset (pos 0) is_asset (omega arith);
  }

  pub settled_units_count : All (λ (a : Account). length a.units ≡ asset_count b) (settled_balances prices ts b).accounts
  settled_units_count = All-map (λ (a : Account). length a.units ≡ asset_count b) (settled_account prices ts b) (range_with_len 1 (account_count b)) (λ k d inside. units_count (slice_index_or (range_with_len 1 (account_count b)) k d))

  pub exchange_units_count : length (settled_exchange prices ts b exchange).units ≡ asset_count b
  exchange_units_count = length-map (range_with_len 0 (asset_count b)) (λ s. units_in exchange s -ℤ residual ts s) ∙ length-range_with_len 0 (asset_count b)
