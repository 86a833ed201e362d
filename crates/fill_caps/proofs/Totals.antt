-- Settling keeps what all accounts and the exchange hold together, and moves the exchange by little.
use Rattle.std.proofs.Common.{◌≡◌, ℕ, ◌+◌, ◌-◌, ◌≤◌, ◌<◌, ℤ, pos, ◌+ℤ◌, ◌-ℤ◌, List, ap, sym, ◌∙◌, arith}
use Rattle.std.specs.Prelude.{All, slice_index_or}
use Rattle.std.specs.List.{range_with_len}
use Rattle.std.proofs.lemmas.Int.{ints}
use Rattle.std.proofs.lemmas.List.{get_or_default}
use Rattle.list_sums.specs.Sums.{int_sum_by}
use Rattle.list_sums.proofs.SumLemmas.{int_sum_by-add, int_sum_by-places, int_sum_by-range, int_sum_by-sub}
use Rattle.weight_rows.specs.Rows.{IsWeightVector, IsPricedBy}
use Rattle.flow_accounts.specs.Balances.{Account, Balances, IsAccount, IsAsset, account_count, empty_account, money_of, units_of, units_in}
use Rattle.flow_accounts.specs.Sums.{money_of_all, units_of_all}
use Rattle.flow_orders.specs.Trades.{Trade, paid, received, trader}
use Rattle.flow_orders.specs.Orders.{own_sum}
use Rattle.fill_caps.specs.Settles.{Settles}
use Rattle.flow_orders.proofs.Duality.{costs_by_asset}
use Rattle.flow_orders.proofs.OwnSums.{own_sums_are_all}

place : (i : ℕ) → 1 + i - 1 ≡ i
place i = omega arith

-- what all accounts hold, by their numbers
pub money_by_account : (b : Balances) → money_of_all b ≡ int_sum_by (λ account. money_of b account) (range_with_len 1 (account_count b))
money_by_account b =
    int_sum_by-places (λ (a : Account). a.money) (λ account. money_of b account) 1 b.accounts
    (λ i d inside. ap (λ a. a.money) (get_or_default b.accounts i d (empty_account 0) inside) ∙ ap (λ n. (slice_index_or b.accounts n (empty_account 0)).money) (sym (place i)))

pub units_by_account : (b : Balances) (asset : ℕ) → units_of_all b asset ≡ int_sum_by (λ account. units_of b account asset) (range_with_len 1 (account_count b))
units_by_account b asset =
    int_sum_by-places (λ (a : Account). units_in a asset) (λ account. units_of b account asset) 1 b.accounts
    (λ i d inside. ap (λ a. units_in a asset) (get_or_default b.accounts i d (empty_account 0) inside) ∙ ap (λ n. units_in (slice_index_or b.accounts n (empty_account 0)) asset) (sym (place i)))

-- Σ over all accounts of a balance that changes by its own sum
sum_changes : {X : Type 0} (whose : X → ℕ) (f : X → ℤ) (before now : ℕ → ℤ) (n : ℕ) (xs : List X) → All (λ x. (1 ≤ whose x) × (whose x < 1 + n)) xs
    → ((account : ℕ) → 1 ≤ account → account < 1 + n → now account ≡ before account -ℤ own_sum whose account f xs)
    → int_sum_by now (range_with_len 1 n) ≡ int_sum_by before (range_with_len 1 n) -ℤ int_sum_by f xs
sum_changes whose f before now n xs there changes =
    int_sum_by-range now (λ account. before account -ℤ own_sum whose account f xs) 1 n changes
    ∙ int_sum_by-sub before (λ account. own_sum whose account f xs) (range_with_len 1 n)
    ∙ ap (λ y. int_sum_by before (range_with_len 1 n) -ℤ y) (own_sums_are_all whose f 1 n xs there)

module _ (prices : List ℤ) (ts : List Trade) (old new : Balances) (exchange_old exchange_new : Account) where
  -- accounts and exchange hold as much money as before
  pub money_kept : Settles prices ts old new exchange_old exchange_new
      → All (λ t. IsAccount old (trader t)) ts → All (λ t. IsWeightVector t.order.row) ts → All (λ t. IsPricedBy t.order.row prices) ts
      → money_of_all new +ℤ exchange_new.money ≡ money_of_all old +ℤ exchange_old.money
  money_kept settles there lawful priced =
      let costs = costs_by_asset (λ (t : Trade). t.order.row) (λ t. pos t.traded) prices ts lawful priced in
      let among : All (λ t. (1 ≤ trader t) × (trader t < 1 + account_count old)) ts = λ k d inside. ((there k d inside).0, omega (arith, (there k d inside).1)) in
      let moved = sum_changes trader (paid prices) (λ account. money_of old account) (λ account. money_of new account) (account_count old) ts among
      (λ account least most. settles.money account (least, omega (arith, most))) in
      let same_count = ap (λ n. int_sum_by (λ account. money_of new account) (range_with_len 1 n)) settles.accounts in
      omega (arith, ints, money_by_account old, money_by_account new, same_count, moved, costs, settles.exchange_money)

  -- accounts and exchange hold as many units of each asset as before
  pub units_kept : Settles prices ts old new exchange_old exchange_new
      → All (λ t. IsAccount old (trader t)) ts → (asset : ℕ) → IsAsset old asset
      → units_of_all new asset +ℤ units_in exchange_new asset ≡ units_of_all old asset +ℤ units_in exchange_old asset
  units_kept settles there asset is_asset =
      let among : All (λ t. (1 ≤ trader t) × (trader t < 1 + account_count old)) ts = λ k d inside. ((there k d inside).0, omega (arith, (there k d inside).1)) in
      let moved = int_sum_by-range (λ account. units_of new account asset) (λ account. units_of old account asset +ℤ own_sum trader account (received asset) ts) 1 (account_count old)
      (λ account least most. settles.units account asset (least, omega (arith, most)) is_asset) in
      let split = int_sum_by-add (λ account. units_of old account asset) (λ account. own_sum trader account (received asset) ts) (range_with_len 1 (account_count old)) in
      let all = own_sums_are_all trader (received asset) 1 (account_count old) ts among in
      let same_count = ap (λ n. int_sum_by (λ account. units_of new account asset) (range_with_len 1 n)) settles.accounts in
      omega (arith, ints, units_by_account old asset, units_by_account new asset, same_count, moved, split, all, settles.exchange_units asset is_asset)
