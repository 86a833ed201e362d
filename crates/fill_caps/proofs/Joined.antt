-- Settling trades one after the other settles them all, and every step stays within the limits of balances.
use Rattle.std.proofs.Common.{◌≡◌, ℕ, suc, zero, ◌+◌, ◌*◌, ◌^◌, ◌≤◌, ◌<◌, ℤ, pos, ◌+ℤ◌, ◌-ℤ◌, ◌*ℤ◌, ◌≤ℤ◌, List, [], ◌∷◌, ◌++◌, length, cond, eqb, ◌≢◌, ap, refl, sym, subst, ⊎_elim, ◌∙◌, arith, Some, None}
use Rattle.std.specs.Prelude.{All, slice_index_or, unsigned_abs, neg_ℤ}
use Rattle.std.specs.List.{range_with_len, zip}
use Rattle.std.proofs.lemmas.Int.{ints}
use Rattle.std.proofs.lemmas.Bool.{cases_lt}
use Rattle.std.proofs.lemmas.Bool.Decides.{eqb_tells}
use Rattle.std.proofs.lemmas.List.Elements.{All-cons, All-nil}
use Rattle.std.proofs.Math.IntN.{*ℤ-zero}
use Rattle.list_sums.specs.Sums.{int_sum_by}
use Rattle.weight_rows.specs.Rows.{IsWeightVector, IsPricedBy, IsPrice, weight_in, price_of, portfolio_price}
use Rattle.list_sums.proofs.Products.{*ℤ-add, unsigned_abs-mul_le}
use Rattle.list_sums.proofs.SumLemmas.{int_sum_by-add, int_sum_by-same, int_sum_by-append, int_sum_by-zeros, unsigned_abs-int_sum_by}
use Rattle.weight_rows.proofs.RowLemmas.{price_is_bounded}
use Rattle.weight_rows.proofs.RowLawProofs.{weights_are_small}
use Rattle.flow_accounts.specs.Balances.{Account, Balances, IsAccount, IsAsset, account_count, money_of, units_of, money_credit_of, unit_credit_of, units_in}
use Rattle.flow_accounts.specs.Lawful.{most_credit, IsMoneyBalance, IsUnitBalance}
use Rattle.flow_accounts.specs.Sums.{money_of_all, units_of_all}
use Rattle.flow_orders.specs.Orders.{Order, most_orders, own_sum, money_need, unit_need}
use Rattle.flow_orders.specs.Trades.{Trade, trades, paid, received, trader, residual, residual_cost}
use Rattle.fill_caps.specs.Settles.{Settles}
use Rattle.fill_caps.specs.Covers.{CoversNeeds}
use Rattle.flow_orders.proofs.Duality.{costs_by_asset}
use Rattle.flow_orders.proofs.OwnSums.{own_sum-append}
use Rattle.flow_orders.proofs.Limits.{orders_fit}
use Rattle.fill_caps.proofs.Needs.{own_not_negative}
use Rattle.fill_caps.proofs.Totals.{money_by_account, units_by_account}

-- what the imbalances cost is what all trades paid
pub cost_is_paid : (prices : List ℤ) (ts : List Trade) → All (λ t. IsWeightVector t.order.row) ts → All (λ t. IsPricedBy t.order.row prices) ts → int_sum_by (paid prices) ts ≡ residual_cost prices ts
cost_is_paid prices ts lawful priced = costs_by_asset (λ (t : Trade). t.order.row) (λ t. pos t.traded) prices ts lawful priced

-- the imbalances of two lists of trades add up
pub residual-append : (ts us : List Trade) (asset : ℕ) → residual (ts ++ us) asset ≡ residual ts asset +ℤ residual us asset
residual-append ts us asset = int_sum_by-append (received asset) ts us

-- the costs of the imbalances of two lists of trades add up
pub residual_cost-append : (prices : List ℤ) (ts us : List Trade) → residual_cost prices (ts ++ us) ≡ residual_cost prices ts +ℤ residual_cost prices us
residual_cost-append prices ts us =
    let assets = range_with_len 0 (length prices) in
    int_sum_by-same (λ a. price_of prices a *ℤ residual (ts ++ us) a) (λ a. price_of prices a *ℤ residual ts a +ℤ price_of prices a *ℤ residual us a) assets
    (λ a. ap (λ y. price_of prices a *ℤ y) (residual-append ts us a) ∙ *ℤ-add (price_of prices a) (residual ts a) (residual us a))
    ∙ int_sum_by-add (λ a. price_of prices a *ℤ residual ts a) (λ a. price_of prices a *ℤ residual us a) assets

-- no trades: nothing changes
pub settles_none : (prices : List ℤ) (b : Balances) (exchange : Account) → Settles prices [] b b exchange exchange
settles_none prices b exchange = record {
  accounts = refl;
  credits = refl;
  totals = refl;
  money = λ account there. omega (arith, ints);
  units = λ account asset there is_asset. omega (arith, ints);
  exchange_money = let none = int_sum_by-zeros (λ a. price_of prices a *ℤ pos 0) (range_with_len 0 (length prices)) (λ k d inside. *ℤ-zero (price_of prices (slice_index_or (range_with_len 0 (length prices)) k d))) in omega (arith, ints, none);
  exchange_units = λ asset is_asset. omega (arith, ints);
}

own_of_one : {X : Type 0} (whose : X → ℕ) (f : X → ℤ) (account : ℕ) (x : X) → own_sum whose account f (x ∷ []) ≡ cond (eqb (whose x) account) (f x) (pos 0)
own_of_one whose f account x = omega (arith, ints)

-- one trade: its account pays and receives, no other account changes, and the exchange takes the other side
pub settles_one : (prices : List ℤ) (t : Trade) (old new : Balances) (exchange_old exchange_new : Account) → IsWeightVector t.order.row → IsPricedBy t.order.row prices
    → account_count new ≡ account_count old → new.credits ≡ old.credits → new.totals ≡ old.totals
    → money_of new (trader t) ≡ money_of old (trader t) -ℤ paid prices t
    → ((other : ℕ) → IsAccount old other → other ≢ trader t → money_of new other ≡ money_of old other)
    → ((asset : ℕ) → IsAsset old asset → units_of new (trader t) asset ≡ units_of old (trader t) asset +ℤ received asset t)
    → ((other asset : ℕ) → IsAccount old other → IsAsset old asset → other ≢ trader t → units_of new other asset ≡ units_of old other asset)
    → exchange_new.money ≡ exchange_old.money +ℤ paid prices t
    → ((asset : ℕ) → IsAsset old asset → units_in exchange_new asset ≡ units_in exchange_old asset -ℤ received asset t)
    → Settles prices (t ∷ []) old new exchange_old exchange_new
settles_one prices t old new exchange_old exchange_new lawful priced accounts credits totals money money_others units units_others exchange_money exchange_units = record {
  accounts = accounts;
  credits = credits;
  totals = totals;
  money = λ account there.
      ⊎_elim
      (λ own.
      let here = subst (λ k. money_of new k ≡ money_of old k -ℤ paid prices t) own.1 money in
      let all : own_sum trader account (paid prices) (t ∷ []) ≡ paid prices t = own_of_one trader (paid prices) account t ∙ rw own.0 in
      omega (arith, ints, here, all))
      (λ other.
      let none : own_sum trader account (paid prices) (t ∷ []) ≡ pos 0 = own_of_one trader (paid prices) account t ∙ rw other.0 in
      omega (arith, ints, none, money_others account there (λ same. other.1 (sym same))))
      (eqb_tells (trader t) account);
  units = λ account asset there is_asset.
      ⊎_elim
      (λ own.
      let here = subst (λ k. units_of new k asset ≡ units_of old k asset +ℤ received asset t) own.1 (units asset is_asset) in
      let all : own_sum trader account (received asset) (t ∷ []) ≡ received asset t = own_of_one trader (received asset) account t ∙ rw own.0 in
      omega (arith, ints, here, all))
      (λ other.
      let none : own_sum trader account (received asset) (t ∷ []) ≡ pos 0 = own_of_one trader (received asset) account t ∙ rw other.0 in
      omega (arith, ints, none, units_others account asset there is_asset (λ same. other.1 (sym same))))
      (eqb_tells (trader t) account);
  exchange_money =
      let cost = cost_is_paid prices (t ∷ []) (All-cons (λ t. IsWeightVector t.order.row) t [] lawful (All-nil (λ t. IsWeightVector t.order.row))) (All-cons (λ t. IsPricedBy t.order.row prices) t [] priced (All-nil (λ t. IsPricedBy t.order.row prices))) in
      omega (arith, ints, exchange_money, cost);
  exchange_units = λ asset is_asset. omega (arith, ints, exchange_units asset is_asset);
}

-- trades that are settled after others
pub settles_more : (prices : List ℤ) (ts us : List Trade) (old now new : Balances) (exchange_old exchange_now exchange_new : Account)
    → Settles prices ts old now exchange_old exchange_now → Settles prices us now new exchange_now exchange_new → Settles prices (ts ++ us) old new exchange_old exchange_new
settles_more prices ts us old now new exchange_old exchange_now exchange_new first second = record {
  accounts = second.accounts ∙ first.accounts;
  credits = second.credits ∙ first.credits;
  totals = second.totals ∙ first.totals;
  money = λ account there.
      let there_now : IsAccount now account = (there.0, omega (arith, there.1, first.accounts)) in
      omega (arith, ints, first.money account there, second.money account there_now, own_sum-append trader (paid prices) account ts us);
  units = λ account asset there is_asset.
      let there_now : IsAccount now account = (there.0, omega (arith, there.1, first.accounts)) in
      let asset_now : IsAsset now asset = omega (arith, is_asset, ap (λ (t : Account). length t.units) first.totals) in
      omega (arith, ints, first.units account asset there is_asset, second.units account asset there_now asset_now, own_sum-append trader (received asset) account ts us);
  exchange_money = omega (arith, ints, first.exchange_money, second.exchange_money, residual_cost-append prices ts us);
  exchange_units = λ asset is_asset.
      let asset_now : IsAsset now asset = omega (arith, is_asset, ap (λ (t : Account). length t.units) first.totals) in
      omega (arith, ints, first.exchange_units asset is_asset, second.exchange_units asset asset_now, residual-append ts us asset);
}

module _ (prices : List ℤ) (ts : List Trade) (few : length ts ≤ most_orders) (lawful : All (λ t. IsWeightVector t.order.row) ts) (slow : All (λ t. t.traded ≤ 2 ^ 24) ts) where
  -- any part of a batch moves at most 2^116 grains in all
  pub part_money_is_small : All IsPrice prices → unsigned_abs (int_sum_by (paid prices) ts) ≤ 2 ^ 116
  part_money_is_small bounded =
      let each : All (λ t. unsigned_abs (paid prices t) ≤ 2 ^ 24 * 2 ^ 78) ts = λ k d inside.
      unsigned_abs-mul_le (pos (slice_index_or ts k d).traded) (portfolio_price (slice_index_or ts k d).order.row prices) (2 ^ 24) (2 ^ 78) (slow k d inside) (price_is_bounded (slice_index_or ts k d).order.row prices (lawful k d inside) bounded) in
      let all = unsigned_abs-int_sum_by (paid prices) (2 ^ 24 * 2 ^ 78) ts each in
      omega (arith, all, few, orders_fit)

  -- any part of a batch moves at most 2^50 units of an asset
  pub part_units_are_small : (asset : ℕ) → unsigned_abs (residual ts asset) ≤ 2 ^ 50
  part_units_are_small asset =
      let each : All (λ t. unsigned_abs (received asset t) ≤ 4096 * 2 ^ 24) ts = λ k d inside.
      unsigned_abs-mul_le (weight_in (slice_index_or ts k d).order.row asset) (pos (slice_index_or ts k d).traded) 4096 (2 ^ 24) (weights_are_small (slice_index_or ts k d).order.row asset (lawful k d inside)) (slow k d inside) in
      let all = unsigned_abs-int_sum_by (received asset) (4096 * 2 ^ 24) ts each in
      omega (arith, all, few, orders_fit)

-- terms that aren't below minus c
module _ (g : ℕ → ℤ) (c : ℕ) where
  pub range_least : (a n : ℕ) → ((k : ℕ) → a ≤ k → k < a + n → neg_ℤ (pos c) ≤ℤ g k) → neg_ℤ (pos (c * n)) ≤ℤ int_sum_by g (range_with_len a n)
  range_least a zero each = omega (arith, ints)
  range_least a (suc n) each =
      omega (arith, ints, each a (omega arith) (omega arith), range_least (a + 1) n (λ k least most. each k (omega (arith, least)) (omega (arith, most))))

  -- one of several such terms is at most their sum and c for each
  pub le-range_sum : (a n m : ℕ) → a ≤ m → m < a + n → ((k : ℕ) → a ≤ k → k < a + n → neg_ℤ (pos c) ≤ℤ g k) → g m ≤ℤ (int_sum_by g (range_with_len a n) +ℤ pos (c * n))
  le-range_sum a zero m least most each = absurd (omega (arith, least, most))
  le-range_sum a (suc n) m least most each =
      let rest : (k : ℕ) → a + 1 ≤ k → k < a + 1 + n → neg_ℤ (pos c) ≤ℤ g k = λ k low high. each k (omega (arith, low)) (omega (arith, high)) in
      ⊎_elim
      (λ later. omega (arith, ints, each a (omega arith) (omega arith), le-range_sum (a + 1) n m (omega (arith, later)) (omega (arith, most)) rest))
      (λ here. let same : m ≡ a = omega (arith, here, least) in subst (λ k. g k ≤ℤ (int_sum_by g (range_with_len a (suc n)) +ℤ pos (c * suc n))) (sym same) (omega (arith, ints, range_least (a + 1) n rest)))
      (cases_lt a m)

-- no account owes more than the highest credits
pub record OweLittle (b : Balances) : Type 0 where
  pub few : account_count b ≤ 65536
  pub money : (account : ℕ) → IsAccount b account → neg_ℤ (pos (2 ^ 72)) ≤ℤ money_of b account
  pub units : (account asset : ℕ) → IsAccount b account → IsAsset b asset → neg_ℤ (pos (2 ^ 40)) ≤ℤ units_of b account asset

-- no account owes more if its orders' needs are covered and no credit is above the highest
pub owe_little : (b : Balances) (orders : List Order) → CoversNeeds b orders → account_count b ≤ 65536
    → ((account : ℕ) → IsAccount b account → money_credit_of b account ≤ most_credit)
    → ((account asset : ℕ) → IsAccount b account → IsAsset b asset → unit_credit_of b account asset ≤ most_credit) → OweLittle b
owe_little b orders covers few money units = record {
  few = few;
  money = λ account there. omega (arith, ints, own_not_negative money_need account orders, covers account None there tt, money account there);
  units = λ account asset there is_asset. omega (arith, ints, own_not_negative (unit_need asset) account orders, covers account (Some asset) there is_asset, units account asset there is_asset);
}

module _ (b : Balances) (owe : OweLittle b) where
  -- one account has no more money than all together and all that they owe, which is the total less what the exchange has and what they owe
  pub money_is_bounded : (exchange total : ℤ) → money_of_all b +ℤ exchange ≡ total → (account : ℕ) → IsAccount b account → money_of b account ≤ℤ (total -ℤ exchange +ℤ pos (2 ^ 88))
  money_is_bounded exchange total sums account there =
      let most = le-range_sum (λ k. money_of b k) (2 ^ 72) 1 (account_count b) account there.0 (omega (arith, there.1)) (λ k low high. owe.money k (low, omega (arith, high))) in
      omega (arith, ints, most, sums, money_by_account b, owe.few)

  -- one account has no more units of an asset than the total less what the exchange has, and what all accounts owe
  pub units_are_bounded : (asset : ℕ) → IsAsset b asset → (exchange total : ℤ) → units_of_all b asset +ℤ exchange ≡ total → (account : ℕ) → IsAccount b account → units_of b account asset ≤ℤ (total -ℤ exchange +ℤ pos (2 ^ 56))
  units_are_bounded asset is_asset exchange total sums account there =
      let most = le-range_sum (λ k. units_of b k asset) (2 ^ 40) 1 (account_count b) account there.0 (omega (arith, there.1)) (λ k low high. owe.units k asset (low, omega (arith, high)) is_asset) in
      omega (arith, ints, most, sums, units_by_account b asset, owe.few)

  -- balances fit while the exchange was within 2^123 grains and 2^55 units before a part of a batch moved it
  pub money_fits : (before now total : ℤ) → money_of_all b +ℤ now ≡ total → total ≤ℤ pos (2 ^ 100) → unsigned_abs before ≤ 2 ^ 123 → unsigned_abs (now -ℤ before) ≤ 2 ^ 116 → (account : ℕ) → IsAccount b account → IsMoneyBalance (money_of b account)
  money_fits before now total sums limited near moved account there =
      (owe.money account there, omega (arith, ints, money_is_bounded now total sums account there, limited, near, moved))

  pub units_fit : (asset : ℕ) → IsAsset b asset → (before now total : ℤ) → units_of_all b asset +ℤ now ≡ total → total ≤ℤ pos (2 ^ 60) → unsigned_abs before ≤ 2 ^ 55 → unsigned_abs (now -ℤ before) ≤ 2 ^ 50 → (account : ℕ) → IsAccount b account → IsUnitBalance (units_of b account asset)
  units_fit asset is_asset before now total sums limited near moved account there =
      (owe.units account asset there is_asset, omega (arith, ints, units_are_bounded asset is_asset now total sums account there, limited, near, moved))

-- the imbalances of orders with one rate each, as a sum over the orders, each with its rate
pub residual-trades : (orders : List Order) (rates : List ℕ) (asset : ℕ) → residual (trades orders rates) asset ≡ int_sum_by (λ pair. weight_in pair.0.row asset *ℤ pos pair.1) (zip orders rates)
residual-trades [] rates asset = refl
residual-trades (o ∷ orders) [] asset = refl
residual-trades (o ∷ orders) (x ∷ rates) asset = omega (arith, ints, residual-trades orders rates asset)
