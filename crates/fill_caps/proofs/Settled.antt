-- Settlement is determined, and what becomes of the orders.
use Rattle.std.proofs.Common.{◌≡◌, ℕ, suc, zero, ◌+◌, ◌-◌, ◌≤◌, ◌<◌, ℤ, pos, List, [], ◌∷◌, length, get_or, ap, refl, sym, ◌∙◌, arith}
use Rattle.std.specs.Prelude.{All, slice_index_or}
use Rattle.std.specs.List.{AllPairs}
use Rattle.std.proofs.lemmas.Bool.{ltb-true}
use Rattle.std.proofs.lemmas.List.Elements.{filter_passes}
use Rattle.std.proofs.lemmas.List.Kept.{AllPairs-filter}
use Rattle.std.proofs.lemmas.List.{same_lists, get_or_default}
use Rattle.flow_accounts.specs.Balances.{Account, Balances, IsAccount, asset_count, account_of, empty_account, units_in}
use Rattle.flow_orders.specs.Orders.{Order}
use Rattle.flow_orders.specs.Trades.{Trade, after_fill, staying}
use Rattle.fill_caps.specs.Settles.{Settles}
use Rattle.flow_orders.proofs.TradeFacts.{before_fills, after_fills, IsAllowed, is_live}

-- an account is its money and its units, asset by asset
same_account : (n : ℕ) (a b : Account) → length a.units ≡ n → length b.units ≡ n → a.money ≡ b.money → ((asset : ℕ) → asset < n → units_in a asset ≡ units_in b asset) → a ≡ b
same_account n a b one_each one_each_too money units =
    let each = same_lists a.units b.units (one_each ∙ sym one_each_too) (λ k d inside.
    get_or_default a.units k d (pos 0) inside ∙ units k (omega (arith, inside, one_each)) ∙ get_or_default b.units k (pos 0) d (omega (arith, inside, one_each, one_each_too))) in
    ap (λ m. record { money = m; units = a.units }) money ∙ ap (λ l. record { money = b.money; units = l }) each

module _ (prices : List ℤ) (ts : List Trade) (old new other : Balances) (exchange_old exchange_new exchange_other : Account) where
  -- the balances after settling are determined
  pub settled_balances_are_one : Settles prices ts old new exchange_old exchange_new → Settles prices ts old other exchange_old exchange_other
      → All (λ a. length a.units ≡ asset_count old) new.accounts → All (λ a. length a.units ≡ asset_count old) other.accounts
      → new ≡ other
  settled_balances_are_one one two each each_too =
      let accounts = same_lists new.accounts other.accounts (one.accounts ∙ sym two.accounts) (λ k d inside.
      let inside_too : k < length other.accounts = omega (arith, inside, one.accounts, two.accounts) in
      let there : IsAccount old (k + 1) = (omega arith, omega (arith, inside, one.accounts)) in
      let at : k + 1 - 1 ≡ k = omega arith in
      let first : slice_index_or new.accounts k d ≡ account_of new (k + 1) = get_or_default new.accounts k d (empty_account 0) inside ∙ ap (λ i. slice_index_or new.accounts i (empty_account 0)) (sym at) in
      let second : slice_index_or other.accounts k d ≡ account_of other (k + 1) = get_or_default other.accounts k d (empty_account 0) inside_too ∙ ap (λ i. slice_index_or other.accounts i (empty_account 0)) (sym at) in
      first
      ∙ same_account (asset_count old) (account_of new (k + 1)) (account_of other (k + 1))
      (ap (λ a. length a.units) (sym first) ∙ each k d inside)
      (ap (λ a. length a.units) (sym second) ∙ each_too k d inside_too)
      (one.money (k + 1) there ∙ sym (two.money (k + 1) there))
      (λ asset is_asset. one.units (k + 1) asset there is_asset ∙ sym (two.units (k + 1) asset there is_asset))
      ∙ sym second) in
      ap (λ l. record { accounts = l; credits = new.credits; totals = new.totals }) accounts
      ∙ ap (λ l. record { accounts = other.accounts; credits = l; totals = new.totals }) (one.credits ∙ sym two.credits)
      ∙ ap (λ t. record { accounts = other.accounts; credits = other.credits; totals = t }) (one.totals ∙ sym two.totals)

  -- the exchange's account after settling is determined
  pub settled_exchange_is_one : Settles prices ts old new exchange_old exchange_new → Settles prices ts old other exchange_old exchange_other
      → length exchange_new.units ≡ asset_count old → length exchange_other.units ≡ asset_count old
      → exchange_new ≡ exchange_other
  settled_exchange_is_one one two each each_too =
      same_account (asset_count old) exchange_new exchange_other each each_too (one.exchange_money ∙ sym two.exchange_money)
      (λ asset is_asset. one.exchange_units asset is_asset ∙ sym (two.exchange_units asset is_asset))

-- no fill passes its cap
pub fill_within_cap : (prices : List ℤ) (t : Trade) → IsAllowed prices t → t.order.filled ≤ t.order.cap → (after_fill t).filled ≤ (after_fill t).cap
fill_within_cap prices t allowed within = omega (arith, allowed.within, within)

-- each order that stays is below its cap
pub staying_are_live : (ts : List Trade) → All (λ o. o.filled < o.cap) (staying ts)
staying_are_live ts k d inside =
    let order = slice_index_or (staying ts) k d in
    ltb-true order.filled order.cap (filter_passes is_live (after_fills ts) k d inside)

numbers_same : (ts : List Trade) (i : ℕ) (d : Order) → (get_or (after_fills ts) i d).number ≡ (get_or (before_fills ts) i d).number
numbers_same [] i d = refl
numbers_same (t ∷ ts) zero d = refl
numbers_same (t ∷ ts) (suc i) d = numbers_same ts i d

same_count : (ts : List Trade) → length (after_fills ts) ≡ length (before_fills ts)
same_count [] = refl
same_count (t ∷ ts) = omega (arith, same_count ts)

-- order numbers still ascend
pub numbers_ascend : (ts : List Trade) → AllPairs (λ o later. o.number < later.number) (before_fills ts) → AllPairs (λ o later. o.number < later.number) (staying ts)
numbers_ascend ts ascend =
    AllPairs-filter (λ o later. o.number < later.number) is_live (after_fills ts) (λ i j d below inside.
    omega (arith, numbers_same ts i d, numbers_same ts j d, ascend i j d below (omega (arith, inside, same_count ts))))
