-- New assets, and orders that are placed and cancelled, keep a market consistent.
use Rattle.std.proofs.Common.{◌≡◌, ◌≢◌, Bool, inl, inr, ℕ, ◌+◌, ◌*◌, ◌^◌, ◌≤◌, ◌<◌, ℤ, pos, ◌≤ℤ◌, List, [], ◌∷◌, Option, length, refl, ap, sym, subst, ⊎_elim, ◌∙◌, arith, Some, None}
use Rattle.std.specs.Prelude.{All, Contains, slice_index_or, unsigned_abs, not, ◌==◌}
use Rattle.std.specs.List.{filter}
use Rattle.std.proofs.lemmas.Int.{ints}
use Rattle.std.proofs.lemmas.Bool.{cases_lt, cases_Bool}
use Rattle.std.proofs.lemmas.List.{get_or_past, length_push, length-map}
use Rattle.std.proofs.lemmas.List.Elements.{All-push, All-map, All-filter, Contains-get_or}
use Rattle.std.proofs.lemmas.List.Kept.{AllPairs-filter}
use Rattle.std.proofs.lemmas.List.Quantifiers.{all_pairs_push}
use Rattle.weight_rows.specs.Rows.{IsPrice, IsWeightVector}
use Rattle.ticker_table.specs.Tickers.{IsTicker}
use Rattle.demand_curve.specs.Demand.{IsWithin, most_rate}
use Rattle.flow_accounts.specs.Balances.{Account, IsAccount, IsAsset, asset_count, units_of, units_in, total_of, with_asset, add_asset, with_credit_place, unit_credit_of}
use Rattle.flow_accounts.specs.Lawful.{total_limit, IsLawfulCredit}
use Rattle.market_rules.proofs.ByKind.{holds_totals, within_limits}
use Rattle.flow_accounts.proofs.Grown.{lawful-with_credit_place}
use Rattle.fill_caps.proofs.Needs.{covers_both}
use Rattle.market_rules.proofs.Ending.{all_in_time}
use Rattle.flow_accounts.proofs.Moves.{assets_start_at_zero}
use Rattle.flow_accounts.proofs.ListLemmas.{get_or-push_same}
use Rattle.flow_orders.specs.Orders.{Order, IsOrder, most_cap, price_of_ticks, unit_need, AreLimits, IsFrom1To}
use Rattle.wire_records.specs.Commands.{Request}
use Rattle.market_rules.specs.Market.{Market, IsConsistent, IsLiveOrder, IsInTime, IsNoCredit, held_balance}
use Rattle.market_rules.proofs.Made.{with_ticker, with_order, without_order}
use Rattle.market_rules.specs.Step.{placed, IsAffordable}
use Rattle.wire_records.specs.Limits.{limits_of}
use Rattle.market_rules.proofs.VersionLimits.{assets_within}
use Rattle.market_rules.proofs.Lawful.{consistent_is_lawful}
use Rattle.market_rules.proofs.ConsistentBalances.{live_still}
use Rattle.market_rules.proofs.OwnNeeds.{own_sum-zeros, weight_above, needs-filter, needs-push}

-- an account with one more asset, of which it holds nothing
units_pushed : (n : ℕ) (a : Account) → length a.units ≡ n → length (with_asset a).units ≡ n + 1
units_pushed n a count = length_push a.units (pos 0) ∙ ap (λ k. k + 1) count

-- an asset is added
pub consistent-ticker : (m : Market) (ticker : List ℕ) → IsConsistent m → IsTicker ticker → (Contains m.tickers ticker → ⊥) → length m.tickers < (limits_of m.version).assets → IsConsistent (with_ticker m ticker)
consistent-ticker m ticker consistent valid absent few =
    let b = m.balances in
    let new = add_asset b in
    let n = asset_count b in
    let adds = assets_start_at_zero b (consistent_is_lawful m consistent) in
    let one_more : asset_count new ≡ n + 1 = adds.assets in
    let new_number : length m.tickers ≡ n = consistent.one_each.tickers in
    record {
      one_each = record {
        tickers = length_push m.tickers ticker ∙ ap (λ k. k + 1) consistent.one_each.tickers ∙ sym one_more;
        prices = length_push m.last_prices (pos 0) ∙ ap (λ k. k + 1) consistent.one_each.prices ∙ sym one_more;
        accounts = rw one_more (All-map (λ (a : Account). length a.units ≡ n + 1) with_asset b.accounts (λ k d inside. units_pushed n (slice_index_or b.accounts k d) (consistent.one_each.accounts k d inside)));
        exchange = units_pushed n m.exchange consistent.one_each.exchange ∙ sym one_more;
        credits = length-map b.credits with_credit_place ∙ consistent.one_each.credits ∙ sym adds.accounts;
      };
      tickers = record {
        valid = All-push IsTicker m.tickers ticker consistent.tickers.valid valid;
        distinct = all_pairs_push ◌≢◌ m.tickers ticker consistent.tickers.distinct (λ k d inside same. absent (subst (λ t. Contains m.tickers t) same (Contains-get_or m.tickers k d inside)));
        few = omega (arith, length_push m.tickers ticker, few, assets_within m.version);
      };
      live = live_still m (with_ticker m ticker) m.orders refl (omega (arith, adds.accounts)) (omega (arith, one_more)) (omega arith) (all_in_time m m.orders consistent.live) consistent.live;
      ascending = consistent.ascending;
      covered = covers_both new m.orders
          (λ k there.
          let is : IsAccount b k = (there.0, omega (arith, there.1, adds.accounts)) in
          omega (arith, ints, adds.kept.money k, adds.kept.money_credits k, consistent.covered k None is tt))
          (λ k asset there is_asset.
          let is : IsAccount b k = (there.0, omega (arith, there.1, adds.accounts)) in
          ⊎_elim
          (λ before. omega (arith, ints, adds.kept.units k asset, adds.kept.unit_credits k asset, consistent.covered k (Some asset) is before))
          (λ last.
          let is_new : asset ≡ n = omega (arith, last, is_asset, one_more) in
          let none = own_sum-zeros (λ (o : Order). o.account) (λ (o : Order). pos (unit_need asset o)) k m.orders
          (λ i d inside. let w = weight_above (slice_index_or m.orders i d).row asset (λ j e within. let there = (consistent.live i d inside).assets j e within in omega (arith, there, is_new)) in rw w (omega (arith, ints))) in
          let zero_units : units_of new k asset ≡ pos 0 = subst (λ s. units_of new k s ≡ pos 0) (sym is_new) (adds.units k is) in
          let zero_credit : unit_credit_of new k asset ≡ 0 = subst (λ s. unit_credit_of new k s ≡ 0) (sym is_new) (adds.unit_credits k is) in
          omega (arith, ints, none, zero_units, zero_credit))
          (cases_lt asset n));
      credit = record {
        lawful = rw one_more (All-map (IsLawfulCredit (n + 1)) with_credit_place b.credits (λ k d inside. lawful-with_credit_place n (slice_index_or b.credits k d) (consistent.credit.lawful k d inside)));
        none = λ one. All-map IsNoCredit with_credit_place b.credits (λ k d inside.
            let c = consistent.credit.none one k d inside in
            record { ticks = c.ticks; units = All-push (λ (u : ℕ). u ≡ 0) (slice_index_or b.credits k d).units 0 c.units refl });
      };
      totals = holds_totals (with_ticker m ticker) (omega (arith, ints, adds.kept.money_sum, consistent.totals None tt))
          (λ asset is_asset.
          ⊎_elim
          (λ before.
          let same : units_in (with_asset m.exchange) asset ≡ units_in m.exchange asset = kept_unit m.exchange asset in
          omega (arith, ints, adds.kept.unit_sums asset, consistent.totals (Some asset) before, adds.totals asset, same))
          (λ last.
          let is_new : asset ≡ n = omega (arith, last, is_asset, one_more) in
          let sum : held_balance (with_ticker m ticker) (Some n) ≡ total_of new (Some n) =
          (let same : units_in (with_asset m.exchange) n ≡ pos 0 = kept_unit m.exchange n ∙ past_unit m.exchange n (omega (arith, consistent.one_each.exchange)) in
          omega (arith, ints, adds.unit_sum, adds.total, same)) in
          subst (λ s. held_balance (with_ticker m ticker) (Some s) ≡ total_of new (Some s)) (sym is_new) sum)
          (cases_lt asset n));
      widths = record {
        totals = within_limits new (consistent.widths.totals None tt)
            (λ asset is_asset.
            ⊎_elim
            (λ before. omega (arith, ints, adds.totals asset, consistent.widths.totals (Some asset) before))
            (λ last.
            let is_new : asset ≡ n = omega (arith, last, is_asset, one_more) in
            subst (λ s. total_of new (Some s) ≤ℤ total_limit (Some s)) (sym is_new) (omega (arith, ints, adds.total)))
            (cases_lt asset n));
        exchange_money = consistent.widths.exchange_money;
        exchange_units = All-push (λ units. unsigned_abs units ≤ m.batches * 2 ^ 31) m.exchange.units (pos 0) consistent.widths.exchange_units (omega arith);
      };
      prices = All-push IsPrice m.last_prices (pos 0) consistent.prices (omega arith);
      few_assets = omega (arith, length_push m.tickers ticker, few);
      few_accounts = omega (arith, adds.accounts, consistent.few_accounts);
      few_orders = consistent.few_orders;
      few_batches = consistent.few_batches;
      next = consistent.next;
    }
  where
    kept_unit : (a : Account) (asset : ℕ) → units_in (with_asset a) asset ≡ units_in a asset
    kept_unit a asset = get_or-push_same (λ (u : ℤ). u) a.units (pos 0) (pos 0) asset refl

    past_unit : (a : Account) (asset : ℕ) → length a.units ≤ asset → units_in a asset ≡ pos 0
    past_unit a asset past = get_or_past a.units asset (pos 0) past

-- a price within 2^28 ticks is within 2^60 grains
in_grains : (ticks : ℤ) → IsWithin (2 ^ 28) ticks → IsWithin (2 ^ 60) (price_of_ticks ticks)
in_grains ticks within = (let low = within.0 in omega (arith, ints), let high = within.1 in omega (arith, ints))

-- a filter keeps at most all
pub filter_few : {X : Type 0} (p : X → Bool) (xs : List X) → length (filter p xs) ≤ length xs
filter_few p [] = omega arith
filter_few p (x ∷ xs) = elim (cases_Bool (p x)) [ inl kept ↦ rw kept (omega (arith, filter_few p xs)) | inr dropped ↦ rw dropped (omega (arith, filter_few p xs)) ]

-- an order is placed on a request whose conditions hold
pub placed_is_order : (m : Market) (last : Option ℕ) (r : Request) → AreLimits r.low r.high → IsFrom1To most_rate r.rate → IsFrom1To most_cap r.cap → IsWeightVector r.row → IsOrder (placed m last r)
placed_is_order m last r limits rate cap row = record {
  terms = record {
    low_in_range = in_grains r.low limits.0;
    high_in_range = in_grains r.high limits.1;
    span_least = let apart = limits.2 in omega (arith, ints);
    room_least = omega (arith, rate.0, cap.0);
    room_most = omega arith;
    rate_most = rate.1;
  };
  ticks = (r.low, r.high, refl, refl);
  cap = cap.1;
  left = omega (arith, cap.0);
  row = row;
}

pub consistent-order : (m : Market) (o : Order) → IsConsistent m → IsOrder o → o.number ≡ m.next_order → IsAccount m.balances o.account → length o.row ≤ (limits_of m.version).legs → All (λ e. IsAsset m.balances e.asset) o.row → length m.orders < (limits_of m.version).orders → IsAffordable m o → IsInTime m o → IsConsistent (with_order m o)
consistent-order m o consistent order number account legs assets few affordable time = record {
  one_each = record { tickers = consistent.one_each.tickers; prices = consistent.one_each.prices; accounts = consistent.one_each.accounts; exchange = consistent.one_each.exchange; credits = consistent.one_each.credits };
  tickers = consistent.tickers;
  live = All-push (IsLiveOrder (with_order m o)) m.orders o (live_still m (with_order m o) m.orders refl (omega arith) (omega arith) (omega arith) (all_in_time m m.orders consistent.live) consistent.live)
      (record { order = order; numbered = (omega (arith, number, consistent.next), omega (arith, number)); account = account; legs = legs; assets = assets; in_time = time });
  ascending = all_pairs_push (λ (x : Order) (y : Order). x.number < y.number) m.orders o consistent.ascending (λ k d inside. let l = consistent.live k d inside in omega (arith, l.numbered.1, number));
  covered = needs-push m.balances m.orders o consistent.covered affordable;
  credit = record { lawful = consistent.credit.lawful; none = consistent.credit.none };
  totals = consistent.totals;
  widths = record { totals = consistent.widths.totals; exchange_money = consistent.widths.exchange_money; exchange_units = consistent.widths.exchange_units };
  prices = consistent.prices;
  few_assets = consistent.few_assets;
  few_accounts = consistent.few_accounts;
  few_orders = omega (arith, length_push m.orders o, few);
  few_batches = consistent.few_batches;
  next = omega arith;
}

-- an order leaves
pub consistent-without : (m : Market) (number : ℕ) → IsConsistent m → IsConsistent (without_order m number)
consistent-without m number consistent =
    let stays = λ (o : Order). not (o.number == number) in
    record {
      one_each = record { tickers = consistent.one_each.tickers; prices = consistent.one_each.prices; accounts = consistent.one_each.accounts; exchange = consistent.one_each.exchange; credits = consistent.one_each.credits };
      tickers = consistent.tickers;
      live = live_still m (without_order m number) (filter stays m.orders) refl (omega arith) (omega arith) (omega arith) (all_in_time m (filter stays m.orders) (All-filter stays (IsLiveOrder m) m.orders consistent.live)) (All-filter stays (IsLiveOrder m) m.orders consistent.live);
      ascending = AllPairs-filter (λ (x : Order) (y : Order). x.number < y.number) stays m.orders consistent.ascending;
      covered = needs-filter m.balances stays m.orders consistent.covered;
      credit = record { lawful = consistent.credit.lawful; none = consistent.credit.none };
      totals = consistent.totals;
      widths = record { totals = consistent.widths.totals; exchange_money = consistent.widths.exchange_money; exchange_units = consistent.widths.exchange_units };
      prices = consistent.prices;
      few_assets = consistent.few_assets;
      few_accounts = consistent.few_accounts;
      few_orders = omega (arith, filter_few stays m.orders, consistent.few_orders);
      few_batches = consistent.few_batches;
      next = consistent.next;
    }
