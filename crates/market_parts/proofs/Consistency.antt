-- What is tested of parts is that they are consistent.
use Rattle.std.proofs.Common.{◌≡◌, ℕ, ◌+◌, ◌-◌, ◌*◌, ◌^◌, ◌<◌, ◌≤◌, pos, length, map, get_or, refl, ap, sym, subst, ◌∙◌, arith, Some, None}
use Rattle.std.specs.Prelude.{All, unsigned_abs}
use Rattle.std.proofs.lemmas.Int.{ints}
use Rattle.std.proofs.lemmas.List.{length-map, get_or-map, get_or_default}
use Rattle.weight_rows.specs.Rows.{IsWeightVector, IsPrice}
use Rattle.wire_records.specs.declared.version.Version.{Version}
use Rattle.wire_records.specs.declared.version.Version.TheVariants.{One}
use Rattle.wire_records.proofs.Numbered.{same_number}
use Rattle.ticker_table.specs.Tickers.{AreTickers}
use Rattle.flow_accounts.specs.Balances.{Account, Credit, Balances, IsAccount, asset_count, account_of, credit_of, no_credit}
use Rattle.flow_accounts.specs.Lawful.{most_credit, AreLawful, IsLawfulAccount, IsLawfulCredit, IsUnitBalance, IsUnitTotal}
use Rattle.flow_orders.specs.Orders.{Order, IsOrder}
use Rattle.fill_caps.specs.Covers.{CoversNeeds}
use Rattle.market_rules.proofs.ByKind.{holds_totals, within_limits}
use Rattle.market_rules.specs.Market.{IsConsistent, IsLiveOrder, IsNoCredit}
use Rattle.market_rules.proofs.Lawful.{account_at, consistent_is_lawful, money_of_each, units_of_each, credit_line}
use Rattle.wire_records.specs.Versions.{number_of}
use Rattle.market_parts.specs.Parts.{ReadOrder, Parts, AreConsistent, numbers_of, order_of, market_of}
use Rattle.market_parts.specs.Tests.{IsInShape, most_credit_in, no_order, order_at, AreConsistentBalances, AreConsistentNumbers, HasConsistentTerms, IsConsistentOrder, AreConsistentOrders}

-- the market of consistent parts is consistent
pub consistent_at : (p : Parts) (v : Version) → p.version ≡ number_of v → AreConsistent p → IsConsistent (market_of v p)
consistent_at p v is s =
    let same : s.market.version ≡ v = same_number s.market.version v (sym s.parts.version ∙ is) in
    subst (λ w. IsConsistent (market_of w p)) same (subst IsConsistent s.parts.market s.consistent)

few_credit : (w : Version) (n : ℕ) → n ≤ most_credit → (w ≡ One → n ≡ 0) → n ≤ most_credit_in w
few_credit One n most none = omega (arith, none refl)
few_credit version n most none = most

pub some_credit : (w : Version) → most_credit_in w ≤ most_credit
some_credit One = omega arith
some_credit version = omega arith

module _ (v : Version) (p : Parts) (consistent : IsConsistent (market_of v p)) where
  credit_inside : (account : ℕ) → IsAccount p.balances account → account - 1 < length p.balances.credits
  credit_inside account there = omega (arith, there.0, there.1, consistent.one_each.credits)

  pub consistent_balances : AreConsistentBalances (most_credit_in v) p.balances
  consistent_balances =
      let lawful = consistent_is_lawful (market_of v p) consistent in
      record {
        one_each = record { accounts = consistent.one_each.accounts; lines = consistent.one_each.credits; credits = λ k d inside. (lawful.credits k d inside).one_each };
        few_accounts = lawful.few_accounts;
        few_assets = lawful.few_assets;
        total_money = lawful.total_money;
        total_units = λ asset there. lawful.total_units asset (pos 0) there;
        accounts = λ account there.
            let line = credit_line (market_of v p) consistent account there in
            let none : v ≡ One → IsNoCredit (credit_of p.balances account) = λ one. consistent.credit.none one (account - 1) (no_credit 0) (credit_inside account there) in
            record {
              money = record {
                credit = few_credit v _ line.ticks (λ one. (none one).ticks);
                covered = lawful.within_credit.money account there;
                width = (money_of_each (market_of v p) consistent account there).1;
              };
              units = λ asset is_asset.
                  let inside : asset < length (credit_of p.balances account).units = omega (arith, is_asset, line.one_each) in
                  record {
                    within = few_credit v _ (line.units asset 0 inside) (λ one. (none one).units asset 0 inside);
                    covered = lawful.within_credit.units account asset there is_asset;
                    width = (units_of_each (market_of v p) consistent asset is_asset account there).1;
                  };
            };
      }

  pub consistent_numbers : p.next_order < 2 ^ 63 → AreConsistentNumbers v p.balances p
  consistent_numbers next = record {
    counts = record { next = (consistent.next, next); few_assets = omega (arith, consistent.few_assets, consistent.one_each.tickers); few_batches = consistent.few_batches; few_orders = omega (arith, consistent.few_orders, length-map p.orders order_of) };
    balances = consistent_balances;
    sums = record {
      exchange = consistent.widths.exchange_money;
      held = consistent.totals None tt;
      assets = λ asset there. record {
        price = consistent.prices asset (pos 0) (omega (arith, there, consistent.one_each.prices));
        exchange = consistent.widths.exchange_units asset (pos 0) (omega (arith, there, consistent.one_each.exchange));
        held = consistent.totals (Some asset) there;
      };
    };
  }

  -- an order that is live in the market
  consistent_order : (o : ReadOrder) → IsLiveOrder (market_of v p) (order_of o) → IsConsistentOrder v p.balances p o
  consistent_order o live =
      let terms = live.order.terms in
      record {
        numbers = record {
          terms = record {
            limits = ((omega (arith, ints, terms.low_in_range.0), omega (arith, ints, terms.low_in_range.1)), (omega (arith, ints, terms.high_in_range.0), omega (arith, ints, terms.high_in_range.1)), omega (arith, ints, terms.span_least));
            rate = (omega (arith, terms.room_least, terms.room_most), terms.rate_most);
            cap = (omega (arith, live.order.left), live.order.cap);
            left = live.order.left;
          };
          number = live.numbered;
          account = live.account;
          in_time = live.in_time;
        };
        row = record { lawful = live.order.row; few = live.legs; there = live.assets };
      }

  pub consistent_orders : AreConsistentOrders v p.balances p
  consistent_orders = record {
    each = λ place inside.
        consistent_order (order_at p place)
        (subst (IsLiveOrder (market_of v p)) (get_or-map order_of p.orders place no_order (order_of no_order) inside)
        (consistent.live place (order_of no_order) (omega (arith, inside, length-map p.orders order_of))));
    ascending = λ i j d below inside.
        let counted = length-map p.orders order_of in
        let one = ap (λ (o : Order). o.number) (get_or-map order_of p.orders i d (order_of d) (omega (arith, below, inside))) in
        let other = ap (λ (o : Order). o.number) (get_or-map order_of p.orders j d (order_of d) inside) in
        omega (arith, one, other, consistent.ascending i j (order_of d) below (omega (arith, inside, counted)));
  }

-- the credit line of an account at a place
credit_at : (b : Balances) (k : ℕ) (d : Credit) → k < length b.credits → get_or b.credits k d ≡ credit_of b (k + 1)
credit_at b k d inside =
    let at : k + 1 - 1 ≡ k = omega arith in
    get_or_default b.credits k d (no_credit 0) inside ∙ ap (λ i. get_or b.credits i (no_credit 0)) (sym at)

-- balances that pass the test are lawful
pub lawful_balances : (most : ℕ) (b : Balances) → most ≤ most_credit → AreConsistentBalances most b → AreLawful b
lawful_balances most b few consistent = record {
  few_accounts = consistent.few_accounts;
  few_assets = consistent.few_assets;
  accounts = λ k d inside.
      let there : IsAccount b (k + 1) = (omega arith, omega (arith, inside)) in
      let a = consistent.accounts (k + 1) there in
      let count : length (account_of b (k + 1)).units ≡ asset_count b = ap (λ (a : Account). length a.units) (sym (account_at b k d inside)) ∙ consistent.one_each.accounts k d inside in
      subst (IsLawfulAccount (asset_count b)) (sym (account_at b k d inside)) (record {
        money = (omega (arith, ints, a.money.covered, a.money.credit, few), a.money.width);
        one_each = count;
        units = λ j e within.
            let units = a.units j (omega (arith, within, count)) in
            subst IsUnitBalance (get_or_default (account_of b (k + 1)).units j (pos 0) e within) (omega (arith, ints, units.covered, units.within, few), units.width);
      });
  one_credit_each = consistent.one_each.lines;
  credits = λ k d inside.
      let there : IsAccount b (k + 1) = (omega arith, omega (arith, inside, consistent.one_each.lines)) in
      let a = consistent.accounts (k + 1) there in
      let count : length (credit_of b (k + 1)).units ≡ asset_count b = ap (λ (c : Credit). length c.units) (sym (credit_at b k d inside)) ∙ consistent.one_each.credits k d inside in
      subst (IsLawfulCredit (asset_count b)) (sym (credit_at b k d inside)) (record {
        ticks = omega (arith, a.money.credit, few);
        one_each = count;
        units = λ j e within.
            subst (λ (u : ℕ). u ≤ most_credit) (get_or_default (credit_of b (k + 1)).units j 0 e within) (omega (arith, (a.units j (omega (arith, within, count))).within, few));
      });
  within_credit = record {
    money = λ account there. (consistent.accounts account there).money.covered;
    units = λ account asset there is_asset. ((consistent.accounts account there).units asset is_asset).covered;
  };
  total_money = consistent.total_money;
  total_units = λ k d inside. subst IsUnitTotal (get_or_default b.totals.units k (pos 0) d inside) (consistent.total_units k inside);
}

-- an order whose terms and weight vector pass the test is within its limits
is_order : (o : ReadOrder) → HasConsistentTerms (numbers_of o) → IsWeightVector o.row → IsOrder (order_of o)
is_order o consistent row =
    let low = consistent.limits.0 in
    let high = consistent.limits.1 in
    let apart = consistent.limits.2 in
    record {
      terms = record {
        low_in_range = (omega (arith, ints, low.0), omega (arith, ints, low.1));
        high_in_range = (omega (arith, ints, high.0), omega (arith, ints, high.1));
        span_least = omega (arith, ints, apart);
        room_least = omega (arith, consistent.rate.0, consistent.left);
        room_most = omega arith;
        rate_most = consistent.rate.1;
      };
      ticks = (o.low, o.high, refl, refl);
      cap = consistent.cap.1;
      left = consistent.left;
      row = row;
    }

module _ (v : Version) (p : Parts) (shape : IsInShape p.balances p) (numbers : AreConsistentNumbers v p.balances p) where
  no_credits : v ≡ One → All IsNoCredit p.balances.credits
  no_credits one k d inside =
      let none : most_credit_in v ≡ 0 = ap most_credit_in one in
      let there : IsAccount p.balances (k + 1) = (omega arith, omega (arith, inside, numbers.balances.one_each.lines)) in
      let a = numbers.balances.accounts (k + 1) there in
      let count : length (credit_of p.balances (k + 1)).units ≡ asset_count p.balances = ap (λ (c : Credit). length c.units) (sym (credit_at p.balances k d inside)) ∙ numbers.balances.one_each.credits k d inside in
      subst IsNoCredit (sym (credit_at p.balances k d inside)) (record {
        ticks = omega (arith, a.money.credit, none);
        units = λ j e within.
            subst (λ (u : ℕ). u ≡ 0) (get_or_default (credit_of p.balances (k + 1)).units j 0 e within) (omega (arith, (a.units j (omega (arith, within, count))).within, none));
      })

  -- an order that passes the test is live
  live_order : (o : ReadOrder) → IsConsistentOrder v p.balances p o → IsLiveOrder (market_of v p) (order_of o)
  live_order o consistent = record {
    order = is_order o consistent.numbers.terms consistent.row.lawful;
    numbered = consistent.numbers.number;
    account = consistent.numbers.account;
    legs = consistent.row.few;
    assets = consistent.row.there;
    in_time = consistent.numbers.in_time;
  }

  pub consistent_from : AreTickers p.tickers → AreConsistentOrders v p.balances p → CoversNeeds p.balances (map order_of p.orders) → IsConsistent (market_of v p)
  consistent_from tickers orders covered =
      let lawful = lawful_balances (most_credit_in v) p.balances (some_credit v) numbers.balances in
      let counted = length-map p.orders order_of in
      record {
        one_each = record { tickers = shape.tickers; prices = shape.prices; accounts = numbers.balances.one_each.accounts; exchange = shape.exchange; credits = numbers.balances.one_each.lines };
        tickers = tickers;
        live = λ k d inside.
            let within : k < length p.orders = omega (arith, inside, counted) in
            let read = get_or-map order_of p.orders k no_order d within in
            subst (IsLiveOrder (market_of v p)) (sym read) (live_order (order_at p k) (orders.each k within));
        ascending = λ i j d below inside.
            let later : j < length p.orders = omega (arith, inside, counted) in
            let one = ap (λ (o : Order). o.number) (get_or-map order_of p.orders i no_order d (omega (arith, below, later))) in
            let other = ap (λ (o : Order). o.number) (get_or-map order_of p.orders j no_order d later) in
            omega (arith, one, other, orders.ascending i j no_order below later);
        covered = covered;
        credit = record { lawful = lawful.credits; none = no_credits };
        totals = holds_totals (market_of v p) numbers.sums.held (λ asset there. (numbers.sums.assets asset there).held);
        widths = record {
          totals = within_limits p.balances numbers.balances.total_money.1 (λ asset there. (numbers.balances.total_units asset there).1);
          exchange_money = numbers.sums.exchange;
          exchange_units = λ k d inside. subst (λ units. unsigned_abs units ≤ p.batches * 2 ^ 31) (get_or_default p.exchange.units k (pos 0) d inside) (numbers.sums.assets k (omega (arith, inside, shape.exchange))).exchange;
        };
        prices = λ k d inside. subst IsPrice (get_or_default p.last_prices k (pos 0) d inside) (numbers.sums.assets k (omega (arith, inside, shape.prices))).price;
        few_assets = omega (arith, numbers.counts.few_assets, shape.tickers);
        few_accounts = numbers.balances.few_accounts;
        few_orders = omega (arith, numbers.counts.few_orders, counted);
        few_batches = numbers.counts.few_batches;
        next = numbers.counts.next.0;
      }

-- the results above, for balances that are those of the parts
module _ (p : Parts) (b : Balances) (v : Version) (same : p.balances ≡ b) (is : p.version ≡ number_of v) where
  pub numbers_are_consistent : AreConsistent p → AreConsistentNumbers v b p
  numbers_are_consistent s = subst (λ b. AreConsistentNumbers v b p) same (consistent_numbers v p (consistent_at p v is s) s.next)

  pub tickers_are_consistent : AreConsistent p → AreTickers p.tickers
  tickers_are_consistent s = (consistent_at p v is s).tickers

  pub orders_are_consistent : AreConsistent p → AreConsistentOrders v b p
  orders_are_consistent s = subst (λ b. AreConsistentOrders v b p) same (consistent_orders v p (consistent_at p v is s))

  pub needs_are_covered : AreConsistent p → CoversNeeds b (map order_of p.orders)
  needs_are_covered s = subst (λ b. CoversNeeds b (map order_of p.orders)) same (consistent_at p v is s).covered

  pub market_is_consistent : IsInShape b p → AreConsistentNumbers v b p → AreTickers p.tickers → AreConsistentOrders v b p → CoversNeeds b (map order_of p.orders) → IsConsistent (market_of v p)
  market_is_consistent shape numbers tickers orders covered =
      let here : IsInShape p.balances p = subst (λ b. IsInShape b p) (sym same) shape in
      let numbers_here : AreConsistentNumbers v p.balances p = subst (λ b. AreConsistentNumbers v b p) (sym same) numbers in
      consistent_from v p here numbers_here tickers (subst (λ b. AreConsistentOrders v b p) (sym same) orders) (subst (λ b. CoversNeeds b (map order_of p.orders)) (sym same) covered)
