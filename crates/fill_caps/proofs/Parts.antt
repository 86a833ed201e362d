-- The first orders of a batch are settled, and the next one follows.
use Rattle.std.proofs.Common.{◌≡◌, ℕ, zero, suc, ◌+◌, ◌-◌, ◌^◌, ◌≤◌, ◌<◌, ℤ, pos, ◌+ℤ◌, ◌≤ℤ◌, List, [], ◌∷◌, ◌++◌, take, drop, length, get_or, cond, eqb, refl, ap, sym, subst, ◌∙◌, arith, Some, None}
use Rattle.std.specs.Prelude.{All, slice_index_or, unsigned_abs}
use Rattle.std.proofs.lemmas.Int.{ints}
use Rattle.std.proofs.lemmas.Bool.{eq-eqb}
use Rattle.std.proofs.lemmas.List.{take_more, take_all, take-append-drop, drop_more, map-append, length-map, length-take}
use Rattle.std.proofs.lemmas.List.Elements.{All-take, All-append, All-cons, All-nil}
use Rattle.weight_rows.specs.Rows.{IsWeightVector, IsPricedBy, IsPrice}
use Rattle.demand_curve.specs.Demand.{IsRounding}
use Rattle.demand_curve.proofs.RoundingLaws.{rounding_is_within_room}
use Rattle.flow_accounts.specs.Balances.{Account, Balances, IsAccount, IsAsset, asset_count, money_of, units_of, money_with_credit, units_with_credit, units_in, total_units_of}
use Rattle.flow_accounts.specs.Lawful.{AreLawful}
use Rattle.flow_accounts.specs.Sums.{money_of_all, units_of_all}
use Rattle.flow_accounts.proofs.Balance.{unit_total, money_balance, unit_balance}
use Rattle.flow_orders.specs.Orders.{Order, IsOrder, most_orders, terms_of, money_need, unit_need, own_sum}
use Rattle.flow_orders.specs.Excess.{price_for}
use Rattle.flow_orders.specs.Trades.{Trade, trades, trader, staying}
use Rattle.flow_orders.proofs.OwnSums.{own_sum-append}
use Rattle.flow_orders.proofs.TradeFacts.{IsAllowed, before_fills, after_fills, before-trades, All-trades}
use Rattle.fill_caps.specs.Covers.{CoversNeeds}
use Rattle.fill_caps.specs.Settlement.{settled_balances, settled_exchange}
use Rattle.fill_caps.specs.Room.{HasRoom}
use Rattle.fill_caps.specs.Settles.{Settles}
use Rattle.fill_caps.proofs.Joined.{OweLittle, settles_none, settles_more, cost_is_paid, part_money_is_small, part_units_are_small, money_is_bounded, units_are_bounded}
use Rattle.fill_caps.proofs.Needs.{rounding_is_allowed, needs_kept, needs_kept_by_batch, own_not_negative}
use Rattle.fill_caps.proofs.Settled.{settled_balances_are_one, settled_exchange_is_one}
use Rattle.fill_caps.proofs.SettledBalances.{settles, settled_units_count, exchange_units_count}
use Rattle.fill_caps.proofs.Totals.{money_kept, units_kept}

-- what a batch must satisfy before it is settled
pub record IsReady (prices : List ℤ) (orders : List Order) (rates : List ℕ) (b : Balances) (exchange : Account) : Type 0 where
  pub few : length orders ≤ most_orders
  pub one_rate_each : length rates ≡ length orders
  pub roundings : All (λ t. IsRounding (terms_of t.order) t.traded (price_for prices t.order)) (trades orders rates)
  pub one_price_each : length prices ≡ asset_count b
  pub range : All IsPrice prices
  pub exchange_each : length exchange.units ≡ asset_count b
  pub accounts_there : All (λ o. IsAccount b o.account) orders
  pub assets_there : All (λ o. All (λ e. IsAsset b e.asset) o.row) orders
  pub covered : CoversNeeds b orders
  pub total_money : money_of_all b +ℤ exchange.money ≡ b.totals.money
  pub total_units : (asset : ℕ) → IsAsset b asset → units_of_all b asset +ℤ units_in exchange asset ≡ total_units_of b asset
  pub exchange_money : unsigned_abs exchange.money ≤ 2 ^ 123 - 2 ^ 99
  pub exchange_units : All (λ u. unsigned_abs u ≤ 2 ^ 55 - 2 ^ 31) exchange.units

-- the first i trades are settled
pub record IsSettledTo (prices : List ℤ) (ts : List Trade) (old now : Balances) (exchange_old exchange_now : Account) (i : ℕ) : Type 0 where
  pub settled : Settles prices (take i ts) old now exchange_old exchange_now
  pub orders : All (λ t. IsOrder t.order) (take i ts)
  pub lawful : AreLawful now
  pub exchange_count : length exchange_now.units ≡ length exchange_old.units

pub IsSettledTo-none : (prices : List ℤ) (ts : List Trade) (b : Balances) (exchange : Account) → AreLawful b → IsSettledTo prices ts b b exchange exchange 0
IsSettledTo-none prices ts b exchange lawful = record {
  settled = settles_none prices b exchange;
  orders = All-nil (λ (t : Trade). IsOrder t.order);
  lawful = lawful;
  exchange_count = refl;
}

length-trades : (orders : List Order) (rates : List ℕ) → length rates ≡ length orders → length (trades orders rates) ≡ length orders
length-trades orders rates count = sym (length-map (trades orders rates) (λ (t : Trade). t.order)) ∙ ap length (before-trades orders rates count)

get_or-trades : (orders : List Order) (rates : List ℕ) (i : ℕ) (d : Trade) (o : Order) (x : ℕ) → length rates ≡ length orders → i < length orders
    → get_or (trades orders rates) i d ≡ record { order = get_or orders i o; traded = get_or rates i x }
get_or-trades [] rates i d o x count inside = absurd (omega (arith, inside))
get_or-trades (e ∷ orders) [] i d o x count inside = absurd (omega (arith, count))
get_or-trades (e ∷ orders) (y ∷ rates) zero d o x count inside = refl
get_or-trades (e ∷ orders) (y ∷ rates) (suc i) d o x count inside = get_or-trades orders rates i d o x (omega (arith, count)) (omega (arith, inside))

-- the order at place i and its rate
pub record IsTurn (orders : List Order) (rates : List ℕ) (i : ℕ) (o : Order) (x : ℕ) : Type 0 where
  pub inside : i < length (trades orders rates)
  pub at : get_or (trades orders rates) i (record { order = o; traded = x }) ≡ record { order = o; traded = x }

pub turn_is : (orders : List Order) (rates : List ℕ) (i : ℕ) (o : Order) (x : ℕ) → length rates ≡ length orders → (i < length orders) × (i < length rates) × ((d : Order) → o ≡ get_or orders i d) × ((d : ℕ) → x ≡ get_or rates i d) → IsTurn orders rates i o x
turn_is orders rates i o x count next = record {
  inside = omega (arith, length-trades orders rates count, next.0);
  at = get_or-trades orders rates i (record { order = o; traded = x }) o x count next.0
      ∙ ap (λ (e : Order). record { order = e; traded = get_or rates i x }) (sym (next.2 o))
      ∙ ap (λ (y : ℕ). record { order = o; traded = y }) (sym (next.3 x));
}

-- one of an account's orders needs at most what all of them need
one_of_needs : (need : Order → ℕ) (xs ys : List Order) (o : Order) → pos (need o) ≤ℤ own_sum (λ o. o.account) o.account (λ o. pos (need o)) (xs ++ o ∷ ys)
one_of_needs need xs ys o =
    let part : Order → ℤ = λ o. pos (need o) in
    let own : cond (eqb o.account o.account) (part o) (pos 0) ≡ part o = rw (eq-eqb o.account o.account refl) refl in
    omega (arith, ints, own_sum-append (λ (o : Order). o.account) part o.account xs (o ∷ ys), own_not_negative need o.account xs, own_not_negative need o.account ys, own)

module _ (prices : List ℤ) (orders : List Order) (rates : List ℕ) (old : Balances) (exchange_old : Account) (ready : IsReady prices orders rates old exchange_old) where
  abbrev ts : List Trade
  ts = trades orders rates

  count : length ts ≡ length orders
  count = length-trades orders rates ready.one_rate_each

  there : All (λ t. IsAccount old (trader t)) ts
  there = All-trades (λ o. IsAccount old o.account) orders rates ready.accounts_there

  priced : All (λ t. IsPricedBy t.order.row prices) ts
  priced = All-trades (λ o. IsPricedBy o.row prices) orders rates (λ k d inside j e within. let is_asset = ready.assets_there k d inside j e within in omega (arith, is_asset, ready.one_price_each))

  module _ (now : Balances) (exchange_now : Account) (i : ℕ) (before : IsSettledTo prices ts old now exchange_old exchange_now i) where
    abbrev part : List Trade
    part = take i ts

    part_roundings : All (λ t. IsRounding (terms_of t.order) t.traded (price_for prices t.order)) part
    part_roundings = All-take (λ (t : Trade). IsRounding (terms_of t.order) t.traded (price_for prices t.order)) i ts ready.roundings

    part_allowed : All (IsAllowed prices) part
    part_allowed k d inside = rounding_is_allowed prices (slice_index_or part k d) (before.orders k d inside).terms (part_roundings k d inside)

    part_lawful : All (λ t. IsWeightVector t.order.row) part
    part_lawful k d inside = (before.orders k d inside).row

    part_slow : All (λ t. t.traded ≤ 2 ^ 24) part
    part_slow k d inside =
        let t = slice_index_or part k d in
        let is = before.orders k d inside in
        let room = rounding_is_within_room (terms_of t.order) is.terms (price_for prices t.order) t.traded (part_roundings k d inside) in
        omega (arith, room, is.terms.room_most, is.terms.rate_most)

    part_few : length part ≤ most_orders
    part_few = omega (arith, length-take i ts, count, ready.few)

    part_there : All (λ t. IsAccount old (trader t)) part
    part_there = All-take (λ (t : Trade). IsAccount old (trader t)) i ts there

    part_priced : All (λ t. IsPricedBy t.order.row prices) part
    part_priced = All-take (λ (t : Trade). IsPricedBy t.order.row prices) i ts priced

    pub money_held : money_of_all now +ℤ exchange_now.money ≡ money_of_all old +ℤ exchange_old.money
    money_held = money_kept prices part old now exchange_old exchange_now before.settled part_there part_lawful part_priced

    pub units_held : (asset : ℕ) → IsAsset old asset → units_of_all now asset +ℤ units_in exchange_now asset ≡ units_of_all old asset +ℤ units_in exchange_old asset
    units_held = units_kept prices part old now exchange_old exchange_now before.settled part_there

    -- the exchange is about where it was
    exchange_money_near : unsigned_abs exchange_now.money ≤ 2 ^ 123 + 2 ^ 116
    exchange_money_near =
        let small = part_money_is_small prices part part_few part_lawful part_slow ready.range in
        let paid_is = cost_is_paid prices part part_lawful part_priced in
        omega (arith, ints, before.settled.exchange_money, small, paid_is, ready.exchange_money)

    exchange_units_before : (asset : ℕ) → IsAsset old asset → unsigned_abs (units_in exchange_old asset) ≤ 2 ^ 55 - 2 ^ 31
    exchange_units_before asset is_asset = ready.exchange_units asset (pos 0) (omega (arith, is_asset, ready.exchange_each))

    exchange_units_near : (asset : ℕ) → IsAsset old asset → unsigned_abs (units_in exchange_now asset) ≤ 2 ^ 55 + 2 ^ 50
    exchange_units_near asset is_asset =
        omega (arith, ints, before.settled.exchange_units asset is_asset, part_units_are_small prices part part_few part_lawful part_slow asset, exchange_units_before asset is_asset)

    -- the accounts cover what the settled orders need after their fills and the others before
    covers_now : CoversNeeds now (after_fills part ++ before_fills (drop i ts))
    covers_now =
        let split : before_fills part ++ before_fills (drop i ts) ≡ orders =
        sym (map-append (λ (t : Trade). t.order) part (drop i ts)) ∙ ap before_fills (take-append-drop i ts) ∙ before-trades orders rates ready.one_rate_each in
        needs_kept prices part (before_fills (drop i ts)) old now exchange_old exchange_now before.settled part_allowed (rw split ready.covered)

    module _ (o : Order) (x : ℕ) (turn : IsTurn orders rates i o x) where
      abbrev here : Trade
      here = record { order = o; traded = x }

      rest_is : before_fills (drop i ts) ≡ o ∷ before_fills (drop (i + 1) ts)
      rest_is = ap before_fills (drop_more ts i here turn.inside) ∙ ap (λ (t : Trade). t.order ∷ before_fills (drop (i + 1) ts)) turn.at

      covers_next : CoversNeeds now (after_fills part ++ o ∷ before_fills (drop (i + 1) ts))
      covers_next = subst (λ l. CoversNeeds now (after_fills part ++ l)) rest_is covers_now

      pub rounding : IsRounding (terms_of o) x (price_for prices o)
      rounding = subst (λ (t : Trade). IsRounding (terms_of t.order) t.traded (price_for prices t.order)) turn.at (ready.roundings i here turn.inside)

      account_there : IsAccount now o.account
      account_there =
          let among : IsAccount old o.account = subst (λ (t : Trade). IsAccount old (trader t)) turn.at (there i here turn.inside) in
          (among.0, omega (arith, among.1, before.settled.accounts))

      asset_old : (asset : ℕ) → IsAsset now asset → IsAsset old asset
      asset_old asset is_asset = omega (arith, is_asset, ap (λ (t : Account). length t.units) before.settled.totals)

      money_covered : pos (money_need o) ≤ℤ money_with_credit now o.account
      money_covered = omega (arith, ints, one_of_needs money_need (after_fills part) (before_fills (drop (i + 1) ts)) o, covers_next o.account None account_there tt)

      units_covered : (asset : ℕ) → IsAsset now asset → pos (unit_need asset o) ≤ℤ units_with_credit now o.account asset
      units_covered asset is_asset = omega (arith, ints, one_of_needs (unit_need asset) (after_fills part) (before_fills (drop (i + 1) ts)) o, covers_next o.account (Some asset) account_there is_asset)

      owe : OweLittle now
      owe = record {
        few = before.lawful.few_accounts;
        money = λ account there_now. (money_balance now account before.lawful there_now).0;
        units = λ account asset there_now is_asset. (unit_balance now account asset before.lawful there_now is_asset).0;
      }

      money_most : money_of now o.account ≤ℤ pos (2 ^ 123 + 2 ^ 117)
      money_most =
          let sums : money_of_all now +ℤ exchange_now.money ≡ now.totals.money = omega (arith, ints, money_held, ready.total_money, ap (λ (t : Account). t.money) before.settled.totals) in
          omega (arith, ints, money_is_bounded now owe exchange_now.money now.totals.money sums o.account account_there, exchange_money_near, before.lawful.total_money.1)

      units_most : (asset : ℕ) → IsAsset now asset → units_of now o.account asset ≤ℤ pos (2 ^ 61)
      units_most asset is_asset =
          let was = asset_old asset is_asset in
          let same : total_units_of now asset ≡ total_units_of old asset = ap (λ (t : Account). units_in t asset) before.settled.totals in
          let sums : units_of_all now asset +ℤ units_in exchange_now asset ≡ total_units_of now asset = omega (arith, ints, units_held asset was, ready.total_units asset was, same) in
          omega (arith, ints, units_are_bounded now owe asset is_asset (units_in exchange_now asset) (total_units_of now asset) sums o.account account_there, exchange_units_near asset was, (unit_total now asset before.lawful is_asset).1)

      -- the next order can be settled
      pub has_room : HasRoom o now exchange_now
      has_room = record {
        money_covered = money_covered;
        money_most = money_most;
        units_covered = units_covered;
        units_most = units_most;
        exchange_money = omega (arith, exchange_money_near);
        exchange_units = λ asset is_asset. omega (arith, exchange_units_near asset (asset_old asset is_asset));
      }

      -- once it is settled, so are the first i + 1 trades
      pub IsSettledTo-more : (new : Balances) (exchange_new : Account) (j : ℕ) → j ≡ i + 1 → Settles prices (here ∷ []) now new exchange_now exchange_new → IsOrder o → AreLawful new → length exchange_new.units ≡ length exchange_now.units
          → IsSettledTo prices ts old new exchange_old exchange_new j
      IsSettledTo-more new exchange_new j next settled is lawful same_count =
          let more : take (i + 1) ts ≡ part ++ here ∷ [] = take_more ts i here turn.inside ∙ ap (λ (t : Trade). part ++ t ∷ []) turn.at in
          rw next (record {
            settled = subst (λ l. Settles prices l old new exchange_old exchange_new) (sym more) (settles_more prices part (here ∷ []) old now new exchange_old exchange_now exchange_new before.settled settled);
            orders = subst (λ l. All (λ (t : Trade). IsOrder t.order) l) (sym more) (All-append (λ (t : Trade). IsOrder t.order) part (here ∷ []) before.orders (All-cons (λ (t : Trade). IsOrder t.order) here [] is (All-nil (λ (t : Trade). IsOrder t.order))));
            lawful = lawful;
            exchange_count = same_count ∙ before.exchange_count;
          })

    -- ---- all are settled
    module _ (all : length orders ≤ i) where
      whole : part ≡ ts
      whole = take_all i ts (omega (arith, all, count))

      all_settled : Settles prices ts old now exchange_old exchange_now
      all_settled = subst (λ l. Settles prices l old now exchange_old exchange_now) whole before.settled

      counts : asset_count now ≡ asset_count old
      counts = ap (λ (t : Account). length t.units) before.settled.totals

      pub accounts_settled : now ≡ settled_balances prices ts old
      accounts_settled =
          settled_balances_are_one prices ts old now (settled_balances prices ts old) exchange_old exchange_now (settled_exchange prices ts old exchange_old) all_settled (settles prices ts old exchange_old)
          (λ k d within. (before.lawful.accounts k d within).one_each ∙ counts) (settled_units_count prices ts old exchange_old)

      pub exchange_settled : exchange_now ≡ settled_exchange prices ts old exchange_old
      exchange_settled =
          settled_exchange_is_one prices ts old now (settled_balances prices ts old) exchange_old exchange_now (settled_exchange prices ts old exchange_old) all_settled (settles prices ts old exchange_old)
          (before.exchange_count ∙ ready.exchange_each) (exchange_units_count prices ts old exchange_old)

      pub needs_covered : CoversNeeds now (staying ts)
      needs_covered =
          needs_kept_by_batch prices ts old now exchange_old exchange_now all_settled (subst (All (IsAllowed prices)) whole part_allowed) (rw (before-trades orders rates ready.one_rate_each) ready.covered)
