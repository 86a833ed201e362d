-- Which parts of a clearing are right, and that a verdict is the only one.
use Rattle.std.proofs.Common.{◌≡◌, ◌≢◌, ℕ, ◌+◌, ◌^◌, ◌<◌, ◌≤◌, ℤ, pos, ◌-ℤ◌, List, map, length, get_or, slice_get, to_z, of_z, Some, refl, sym, ap, ◌∙◌, subst, ⊎_elim, arith}
use mir.Syntax.{w128}
use Rattle.std.specs.Prelude.{unsigned_abs, All, IfSome}
use Rattle.std.specs.List.{sum_by, range_with_len}
use Rattle.std.specs.Int.{div_ceil}
use Rattle.std.proofs.lemmas.Int.{ints, to_z-of_z}
use Rattle.std.proofs.lemmas.Bool.{cases_lt}
use Rattle.std.proofs.lemmas.List.{get_or_default, length-map}
use Rattle.std.proofs.lemmas.List.Sums.{sum_by-le, get_or-le-sum_by}
use Rattle.std.proofs.lemmas.List.FromFn.{length-map-range_with_len}
use Rattle.std.proofs.lemmas.Option.{slice_get-get_or, slice_get_cases}
use Rattle.list_sums.specs.Sums.{int_sum_by}
use Rattle.weight_rows.specs.Rows.{IsPrice, weight_in}
use Rattle.weight_rows.proofs.RowLawProofs.{named_assets_weigh}
use Rattle.demand_curve.specs.Demand.{IsRounding, loss}
use Rattle.flow_orders.specs.Orders.{Order, IsOrder, terms_of}
use Rattle.flow_orders.specs.Excess.{price_for, steepness, residual_bound}
use Rattle.flow_orders.specs.Trades.{Trade, trades, residual, residual_cost}
use Rattle.flow_orders.specs.Outcomes.{Fill, Clearing, IsUnnamed, IsAdmissibleClearing, trades_of, residuals_of, gap_of}
use Rattle.flow_orders.specs.Residuals.{residual_in}
use Rattle.batch_certificate.specs.Residuals.{cost_at}
use Rattle.batch_certificate.specs.Verdicts.{HoldsBelow, IsFirstWrong, IsPriceRight, IsRateRight, IsResidualRight, IsGapRight, HasRightPrices, HasRightRates, HasRightResiduals}
use Rattle.batch_outcome.specs.Parts.{numbers_in, rates_in}
use Rattle.batch_certificate.specs.Weighing.{count_in, HasCounts, square, weighed, IsPriceKept, IsResidualWithin}
use Rattle.batch_certificate.proofs.Places.{first_wrong_as}
use Rattle.batch_certificate.proofs.Sums.{IsTurn, trade_at, length-trades, each_is, fits, cost_is}
use Rattle.batch_certificate.proofs.Bounds.{residual_at}

-- ---- counts
rate_for_each : (orders : List Order) (c : Clearing) → numbers_in c ≡ map (λ (o : Order). o.number) orders → length (rates_in c) ≡ length orders
rate_for_each orders c numbers =
    omega (arith, ap length numbers, length-map c.fills (λ (f : Fill). f.rate), length-map c.fills (λ (f : Fill). f.order), length-map orders (λ (o : Order). o.number))

-- ---- rates
-- the trade at place i, if it is that of this order and rate
slice_at : (orders : List Order) (rates : List ℕ) (i : ℕ) (o : Order) (x : ℕ) → IsTurn orders rates i o x → slice_get (trades orders rates) i ≡ Some (record { order = o; traded = x })
slice_at orders rates i o x turn =
    slice_get-get_or (trades orders rates) i (record { order = o; traded = x }) (omega (arith, turn.inside, length-trades orders rates turn.count)) ∙ ap (λ (t : Trade). Some t) (trade_at orders rates i o x turn)

pub rates_count : (orders : List Order) (c : Clearing) → length c.fills ≡ length orders → length (rates_in c) ≡ length orders
rates_count orders c one_each = length-map c.fills (λ (f : Fill). f.rate) ∙ one_each

-- the trade at place i, in a loop over the orders that reads the rates
pub turn_of : (orders : List Order) (c : Clearing) (i : ℕ) (o : Order) (x : ℕ) → length c.fills ≡ length orders → i < length orders → o ≡ get_or orders i o → x ≡ get_or (rates_in c) i 0 → IsTurn orders (rates_in c) i o x
turn_of orders c i o x one_each inside order rate =
    let count = rates_count orders c one_each in
    record {
      count = count;
      inside = inside;
      order = order;
      rate = rate ∙ get_or_default (rates_in c) i 0 x (omega (arith, inside, count));
    }

pub right_at_turn : (orders : List Order) (c : Clearing) (prices : List ℤ) (i : ℕ) (o : Order) (x : ℕ) → prices ≡ c.prices → IsTurn orders (rates_in c) i o x → IsRounding (terms_of o) x (price_for prices o) → IsRateRight orders c i
right_at_turn orders c prices i o x same turn rounding = rw (slice_at orders (rates_in c) i o x turn, ← same) rounding

pub wrong_at_turn : (orders : List Order) (c : Clearing) (prices : List ℤ) (i : ℕ) (o : Order) (x : ℕ) → prices ≡ c.prices → IsTurn orders (rates_in c) i o x → (¬ IsRounding (terms_of o) x (price_for prices o)) → ¬ IsRateRight orders c i
wrong_at_turn orders c prices i o x same turn none right =
    let rounding : IsRounding (terms_of o) x (price_for c.prices o) = rw (slice_at orders (rates_in c) i o x turn) at right in
    none (rw same rounding)

all_from_places : (P : Trade → Type 0) (ts : List Trade) (n : ℕ) → length ts ≡ n → HoldsBelow (λ k. IfSome (slice_get ts k) P) n → All P ts
all_from_places P ts n count each k d inside =
    let at_k : IfSome (slice_get ts k) P = each k (omega (arith, inside, count)) in
    rw (slice_get-get_or ts k d inside) at at_k

places_from_all : (P : Trade → Type 0) (ts : List Trade) (n : ℕ) → length ts ≡ n → All P ts → HoldsBelow (λ k. IfSome (slice_get ts k) P) n
places_from_all P ts n count all k inside =
    ⊎_elim
    (λ there. rw there.2 (subst P there.3 (all k there.0 there.1)))
    (λ past. absurd (omega (arith, past.0, inside, count)))
    (slice_get_cases ts k).1

-- ---- prices
-- an asset's rounding bound is 0 exactly if no order names it
pub no_spread : (orders : List Order) (asset : ℕ) → All IsOrder orders → IsUnnamed orders asset → weighed unsigned_abs orders asset ≡ 0
no_spread orders asset each none =
    let zeros : All (λ (o : Order). unsigned_abs (weight_in o.row asset) ≤ 0) orders = λ k d inside.
    ⊎_elim
    (λ some.
    let weighs : weight_in (get_or orders k d).row asset ≢ pos 0 = λ zero. omega (arith, some, ap unsigned_abs zero) in
    absurd (none k d inside ((named_assets_weigh (get_or orders k d).row asset (each k d inside).row).0 weighs)))
    (λ no. no)
    (cases_lt 0 (unsigned_abs (weight_in (get_or orders k d).row asset))) in
    omega (arith, sum_by-le (λ (o : Order). unsigned_abs (weight_in o.row asset)) 0 orders zeros)

pub is_unnamed : (orders : List Order) (asset : ℕ) → All IsOrder orders → weighed unsigned_abs orders asset ≡ 0 → IsUnnamed orders asset
is_unnamed orders asset each none k d inside named =
    let weight = get_or-le-sum_by (λ (o : Order). unsigned_abs (weight_in o.row asset)) orders k d inside in
    (named_assets_weigh (get_or orders k d).row asset (each k d inside).row).1 named (omega (arith, ints, weight, none))

module _ (orders : List Order) (start : List ℤ) (c : Clearing) (spreads : List ℕ) (n : ℕ) (each : All IsOrder orders) (sums : HasCounts n (weighed unsigned_abs orders) spreads) where
  price_is_right : (k : ℕ) → k < n → IsPriceKept spreads start c k → IsPriceRight orders start c k
  price_is_right k inside kept = record {
    range = kept.0;
    unnamed = λ none. kept.1 (sums.each k inside ∙ no_spread orders k each none);
  }

  price_is_kept : (k : ℕ) → k < n → IsPriceRight orders start c k → IsPriceKept spreads start c k
  price_is_kept k inside right = (right.range, λ none. right.unnamed (is_unnamed orders k each (sym (sums.each k inside) ∙ none)))

  pub first_price : (k : ℕ) → IsFirstWrong (IsPriceKept spreads start c) n k → IsFirstWrong (IsPriceRight orders start c) n k
  first_price k first = first_wrong_as (IsPriceKept spreads start c) (IsPriceRight orders start c) n k price_is_right price_is_kept first

  pub all_prices : HoldsBelow (IsPriceKept spreads start c) n → HoldsBelow (IsPriceRight orders start c) n
  all_prices kept k inside = price_is_right k inside (kept k inside)

pub prices_in_range : (orders : List Order) (start prices : List ℤ) (c : Clearing) (spreads : List ℕ) (n : ℕ) → prices ≡ c.prices → length c.prices ≡ n → HoldsBelow (IsPriceKept spreads start c) n → All IsPrice prices
prices_in_range orders start prices c spreads n same count kept k d inside =
    let here : k < length c.prices = subst (λ l. k < length l) same inside in
    rw (same, get_or_default c.prices k d (pos 0) here) (kept k (omega (arith, here, count))).0

-- ---- imbalances
module _ (orders : List Order) (c : Clearing) (residuals : List ℤ) (spreads squares : List ℕ) (n : ℕ) (left : residuals ≡ residuals_of n (trades_of orders c.fills))
    (sums : HasCounts n (weighed unsigned_abs orders) spreads) (squared : HasCounts n (weighed square orders) squares) where
  here_is : (k : ℕ) → k < n → residual_in residuals k ≡ residual (trades_of orders c.fills) k
  here_is k inside = ap (λ l. residual_in l k) left ∙ residual_at n (trades_of orders c.fills) k inside

  bound_is : (k : ℕ) → k < n → count_in spreads k + div_ceil (count_in squares k) 256 ≡ residual_bound orders k
  unfolding steepness
  bound_is k inside = rw (sums.each k inside, squared.each k inside) refl

  residual_is_right : (k : ℕ) → k < n → IsResidualWithin residuals spreads squares c k → IsResidualRight orders c k
  residual_is_right k inside within =
      let same : residual_in c.residuals k ≡ residual (trades_of orders c.fills) k = within.0 ∙ here_is k inside in
      record {
        left = same;
        bounded = rw (← same, ← bound_is k inside) within.1;
      }

  residual_is_within : (k : ℕ) → k < n → IsResidualRight orders c k → IsResidualWithin residuals spreads squares c k
  residual_is_within k inside right = (right.left ∙ sym (here_is k inside), rw (right.left, bound_is k inside) right.bounded)

  pub first_residual : (k : ℕ) → IsFirstWrong (IsResidualWithin residuals spreads squares c) n k → IsFirstWrong (IsResidualRight orders c) n k
  first_residual k first = first_wrong_as (IsResidualWithin residuals spreads squares c) (IsResidualRight orders c) n k residual_is_right residual_is_within first

  pub all_residuals : HoldsBelow (IsResidualWithin residuals spreads squares c) n → HoldsBelow (IsResidualRight orders c) n
  all_residuals within k inside = residual_is_right k inside (within k inside)

-- what the last steps find of a clearing whose prices and rates are right
module _ (orders : List Order) (start : List ℤ) (c : Clearing) (prices residuals : List ℤ) (spreads squares : List ℕ) (left : residuals ≡ residuals_of (length prices) (trades_of orders c.fills))
    (sums : HasCounts (length prices) (weighed unsigned_abs orders) spreads) (squared : HasCounts (length prices) (weighed square orders) squares)
    (places : length c.residuals ≡ length prices) (rates : HoldsBelow (IsRateRight orders c) (length orders)) (priced : HasRightPrices orders start c) where
  rated : HasRightRates orders start c
  rated = record { priced = priced; rates = rates }

  pub residual_verdict : (k : ℕ) → IsFirstWrong (IsResidualWithin residuals spreads squares c) (length c.residuals) k
      → HasRightRates orders start c × IsFirstWrong (IsResidualRight orders c) (length start) k
  residual_verdict k first =
      let here : IsFirstWrong (IsResidualWithin residuals spreads squares c) (length prices) k = subst (λ n. IsFirstWrong (IsResidualWithin residuals spreads squares c) n k) places first in
      (rated, subst (λ n. IsFirstWrong (IsResidualRight orders c) n k) (sym places ∙ priced.counted.residuals) (first_residual orders c residuals spreads squares (length prices) left sums squared k here))

  pub residuals_right : HoldsBelow (IsResidualWithin residuals spreads squares c) (length c.residuals) → HasRightResiduals orders start c
  residuals_right within = record {
    rated = rated;
    residuals = λ k inside. residual_is_right orders c residuals spreads squares (length prices) left sums squared k (omega (arith, inside, places, priced.counted.residuals)) (within k (omega (arith, inside, priced.counted.residuals)));
  }

-- what was lost less what the imbalances cost is the gap
pub gap_where : (orders : List Order) (c : Clearing) (prices residuals : List ℤ) (lost cost : ℤ) → prices ≡ c.prices → residuals ≡ residuals_of (length prices) (trades_of orders c.fills)
    → lost ≡ pos (sum_by (λ t. loss (terms_of t.order) t.traded (price_for prices t.order)) (trades_of orders c.fills)) → unsigned_abs lost ≤ 2 ^ 74
    → cost ≡ int_sum_by (cost_at prices residuals) (range_with_len 0 (length prices)) → unsigned_abs cost ≤ 2 ^ 118
    → to_z w128 (of_z w128 lost) -ℤ to_z w128 (of_z w128 cost) ≡ gap_of c.prices (trades_of orders c.fills)
gap_where orders c prices residuals lost cost same left lost_is lost_small is small =
    let costs : cost ≡ residual_cost prices (trades_of orders c.fills) = (rw (← left) is) ∙ cost_is prices (trades_of orders c.fills) in
    rw (to_z-of_z w128 lost (fits lost (omega (arith, lost_small))), to_z-of_z w128 cost (fits cost (omega (arith, small))))
    (rw (← same, lost_is, costs) refl)

-- ---- an admissible clearing
pub admissible_clearing : (orders : List Order) (start : List ℤ) (c : Clearing) → HasRightResiduals orders start c → IsGapRight orders c → IsAdmissibleClearing orders start c
admissible_clearing orders start c right gap =
    let priced = right.rated.priced in
    let counted = priced.counted in
    let ts = trades_of orders c.fills in
    let count = length-trades orders (rates_in c) (rate_for_each orders c counted.numbers) in
    record {
      one_price_each = counted.prices;
      small = λ k d inside. rw (get_or_default c.prices k d (pos 0) inside) (priced.prices k (omega (arith, inside, counted.prices))).range;
      unnamed = λ asset inside none. (priced.prices asset inside).unnamed none;
      numbers = counted.numbers;
      roundings = all_from_places (λ t. IsRounding (terms_of t.order) t.traded (price_for c.prices t.order)) ts (length orders) count right.rated.rates;
      residual_each = each_is (length start) (residual ts) c.residuals (record { count = counted.residuals; each = λ asset inside. (right.residuals asset inside).left });
      bounded = λ asset inside. (right.residuals asset inside).bounded;
      gap_is = gap;
    }

pub right_parts : (orders : List Order) (start : List ℤ) (c : Clearing) → IsAdmissibleClearing orders start c → HasRightResiduals orders start c × IsGapRight orders c
right_parts orders start c right =
    let ts = trades_of orders c.fills in
    let n = length start in
    let count = length-trades orders (rates_in c) (rate_for_each orders c right.numbers) in (
      record {
        rated = record {
          priced = record {
            counted = record {
              prices = right.one_price_each;
              residuals = ap length right.residual_each ∙ length-map-range_with_len (residual ts) 0 n;
              numbers = right.numbers;
            };
            prices = λ asset inside. record {
              range = right.small asset (pos 0) (omega (arith, inside, right.one_price_each));
              unnamed = right.unnamed asset inside;
            };
          };
          rates = places_from_all (λ t. IsRounding (terms_of t.order) t.traded (price_for c.prices t.order)) ts (length orders) count right.roundings;
        };
        residuals = λ asset inside. record {
          left = ap (λ l. residual_in l asset) right.residual_each ∙ residual_at n ts asset inside;
          bounded = right.bounded asset inside;
        };
      },
      right.gap_is,
    )
