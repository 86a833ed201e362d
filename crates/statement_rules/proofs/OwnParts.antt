-- An account's own orders and trades among all.
use Rattle.std.proofs.Common.{◌≡◌, ◌≢◌, ◌⊎◌, inl, inr, ℕ, ◌-◌, ◌<◌, ◌≤◌, true, false, not, pos, List, [], ◌∷◌, length, map, get_or, refl, sym, ap, subst, ⊎_elim, ◌∙◌, arith}
use Rattle.std.specs.Prelude.{AllPairs, slice_index_or, ◌==◌}
use Rattle.std.specs.List.{filter}
use Rattle.std.proofs.lemmas.Bool.{cases_Bool, cases_lt, ne_eqb, eqb-true}
use Rattle.std.proofs.lemmas.List.{get_or_past, get_or_default}
use Rattle.flow_accounts.specs.Balances.{Account, Balances, IsAccount, account_count, empty_account, money_of, units_of}
use Rattle.flow_accounts.proofs.ListLemmas.{zero_at}
use Rattle.flow_orders.specs.Orders.{Order}
use Rattle.flow_orders.specs.Outcomes.{trades_of, fill_of}
use Rattle.flow_orders.specs.Trades.{Trade, trades, after_fill, staying, going_on}
use Rattle.flow_orders.proofs.TradeFacts.{is_live}
use Rattle.order_book.specs.Book.{HasOrder, without}
use Rattle.market_rules.specs.Market.{Market, IsConsistent}
use Rattle.statement_rules.specs.Views.{own_trades}
use Rattle.statement_rules.specs.Holdings.{own_orders}
use Rattle.statement_rules.proofs.Lists.{filters_swap, filter_within, filter_none, filter_map_is}

-- nothing trades without a rate
no_rates : (orders : List Order) → trades orders [] ≡ []
no_rates [] = refl
no_rates (o ∷ orders) = refl

-- the own orders with their own rates are the own trades
pub own_again : (account : ℕ) (orders : List Order) (rates : List ℕ)
    → trades_of (own_orders account orders) (map fill_of (own_trades account (trades orders rates))) ≡ own_trades account (trades orders rates)
own_again account [] rates = refl
own_again account (o ∷ orders) [] = no_rates (own_orders account (o ∷ orders))
own_again account (o ∷ orders) (rate ∷ rates) = by (own_again account orders rates) (cases_Bool (o.account == account))
  where
    by : trades_of (own_orders account orders) (map fill_of (own_trades account (trades orders rates))) ≡ own_trades account (trades orders rates)
        → ((o.account == account) ≡ true) ⊎ ((o.account == account) ≡ false)
        → trades_of (own_orders account (o ∷ orders)) (map fill_of (own_trades account (trades (o ∷ orders) (rate ∷ rates)))) ≡ own_trades account (trades (o ∷ orders) (rate ∷ rates))
    by rest (inl one) = rw one (ap (λ (l : List Trade). record { order = o; traded = rate } ∷ l) rest)
    by rest (inr one) = rw one rest

-- the account's own orders that stay live after a batch
pub own_going_on : (account batch : ℕ) (ts : List Trade) → own_orders account (going_on batch (staying ts)) ≡ going_on batch (staying (own_trades account ts))
own_going_on account batch ts =
    filters_swap (λ (o : Order). o.account == account) (λ (o : Order). not (o.last == batch)) (staying ts)
    ∙ ap (going_on batch) (filters_swap (λ (o : Order). o.account == account) is_live (map after_fill ts)
    ∙ ap (filter is_live) (filter_map_is after_fill (λ (o : Order). o.account == account) ts))

-- no live order is of an account that isn't there
pub none_own : (account : ℕ) (m : Market) → IsConsistent m → (IsAccount m.balances account → ⊥) → own_orders account m.orders ≡ []
none_own account m consistent absent =
    filter_none (λ (o : Order). o.account == account) m.orders
    (λ k d inside. ne_eqb (slice_index_or m.orders k d).account account
    (λ same. absent (subst (IsAccount m.balances) same (consistent.live k d inside).account)))

-- a cancel of another account's order leaves the account's own
pub others_cancel : (account named number : ℕ) (orders : List Order) → AllPairs (λ (o : Order) (later : Order). o.number < later.number) orders
    → HasOrder orders named number → named ≢ account → own_orders account (without orders number) ≡ own_orders account orders
others_cancel account named number orders ascending has differs =
    filter_within (λ (o : Order). o.account == account) (λ (o : Order). not (o.number == number)) orders
    (λ k d inside own. ap not (ne_eqb (slice_index_or orders k d).number number (λ same. other k d inside (eqb-true _ account own) same)))
  where
    at : ℕ
    at = has.live.0

    is : slice_index_or orders at has.order ≡ has.order
    is = has.live.2

    within : at < length orders
    within = has.live.1

    number_at : (d : Order) → (slice_index_or orders at d).number ≡ number
    number_at d = ap (λ (o : Order). o.number) (get_or_default orders at d has.order within ∙ is) ∙ has.number_is

    account_at : (d : Order) → (slice_index_or orders at d).account ≡ named
    account_at d = ap (λ (o : Order). o.account) (get_or_default orders at d has.order within ∙ is) ∙ has.account_is

    other : (k : ℕ) (d : Order) → k < length orders → (slice_index_or orders k d).account ≡ account → (slice_index_or orders k d).number ≡ number → ⊥
    other k d inside own same =
        ⊎_elim
        (λ below. let less : (slice_index_or orders k d).number < (slice_index_or orders at d).number = ascending k at d below within in omega (arith, less, same, number_at d))
        (λ above. ⊎_elim
        (λ later. let less : (slice_index_or orders at d).number < (slice_index_or orders k d).number = ascending at k d later inside in omega (arith, less, same, number_at d))
        (λ not_later. let here : k ≡ at = omega (arith, above, not_later) in
        differs (sym (account_at d) ∙ ap (λ i. (slice_index_or orders i d).account) (sym here) ∙ own))
        (cases_lt at k))
        (cases_lt k at)

-- ---- accounts that aren't there

above : (b : Balances) (account : ℕ) → 0 < account → (IsAccount b account → ⊥) → account_count b ≤ account - 1
above b account some absent = ⊎_elim (λ inside. absurd (absent (some, omega (arith, inside, some)))) (λ past. past) (cases_lt (account - 1) (account_count b))

pub no_money : (b : Balances) (account : ℕ) → 0 < account → (IsAccount b account → ⊥) → money_of b account ≡ pos 0
no_money b account some absent = ap (λ (a : Account). a.money) (get_or_past b.accounts (account - 1) (empty_account 0) (above b account some absent))

pub no_units : (b : Balances) (account asset : ℕ) → 0 < account → (IsAccount b account → ⊥) → units_of b account asset ≡ pos 0
no_units b account asset some absent =
    ap (λ (a : Account). get_or a.units asset (pos 0)) (get_or_past b.accounts (account - 1) (empty_account 0) (above b account some absent)) ∙ zero_at 0 asset
