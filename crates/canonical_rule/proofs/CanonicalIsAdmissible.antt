-- The program's canonical outcome is admissible.
use Rattle.std.proofs.Common.{◌≡◌, ℕ, zero, suc, ◌+◌, ◌-◌, ◌^◌, ◌≤◌, ◌<◌, ◌⊎◌, inl, inr, ⊎_elim, Bool, true, false, cond, eqb, ℤ, List, [], ◌∷◌, map, length, refl, ap, sym, subst, ◌∙◌, arith}
use Rattle.std.specs.Prelude.{All, slice_index_or, unsigned_abs}
use Rattle.std.specs.List.{range_with_len, list_all, AllZip}
use Rattle.std.proofs.lemmas.Int.{ints}
use Rattle.std.proofs.lemmas.Bool.{and_parts, false≢true}
use Rattle.std.proofs.lemmas.Bool.Decides.{eqb_tells}
use Rattle.std.proofs.lemmas.List.{append-nil, length-map}
use Rattle.weight_rows.specs.Rows.{IsPrice, weight_in, price_of}
use Rattle.demand_curve.specs.Demand.{IsWithin, IsRounding}
use Rattle.flow_orders.specs.Orders.{Order, IsOrder, terms_of}
use Rattle.flow_orders.specs.Excess.{price_for, residual_bound, is_unsettled}
use Rattle.canonical_rule.specs.Turns.{visits}
use Rattle.flow_orders.specs.Moves.{moved, single_reach}
use Rattle.canonical_rule.specs.Choice.{left_by}
use Rattle.flow_orders.specs.Trades.{Trade, trades, residual}
use Rattle.flow_orders.specs.Outcomes.{most_budget, IsUnnamed, IsWide, Fill, Outcome, Cleared, Skipped, trades_of, fill_of, step_of, end_of, IsAdmissibleOutcome, IsAdmissibleClearing, IsAdmissibleSkip, are_single, clearing_at}
use Rattle.flow_orders.specs.declared.search.Search.{Search}
use Rattle.canonical_rule.specs.Attempts.{canonical_walk, Attempt, attempts, Succeeds, end_of_attempt, EndsFirst}
use Rattle.canonical_rule.specs.Canonical.{moved_once, ArePricesOf, floor_at, is_fraction_at, floor_rates, rates_by_choice, IsCanonicalOutcome}
use Rattle.flow_orders.proofs.Book.{IsConsistent as IsConsistentOrder, IsSettled}
use Rattle.canonical_rule.proofs.Choice.{chosen_are_roundings}
use Rattle.canonical_rule.proofs.ChoiceByEntries.{choice_is_rounding}
use Rattle.flow_orders.proofs.Residuals.{residual_within_bound}
use Rattle.canonical_rule.proofs.Walks.{in_turn-legal, shortest_where, trace_where}
use Rattle.canonical_rule.proofs.Attempting.{last_fails, IsFair, AreFair, attempts_are_fair}
use Rattle.flow_orders.proofs.Singles.{IsSingle}
use Rattle.flow_orders.proofs.DualWalks.{length-move}
use Rattle.flow_orders.proofs.SettleSingle.{IsVisit, AreVisited, IsSettledOnce, settles_single}
use Rattle.flow_orders.proofs.TradeFacts.{rates_back, before_fills, before-trades, All-trades}
use Rattle.flow_orders.proofs.Moving.{settled_is, moved_is, unnamed_is_settled, AreWithin, has_walked}

-- ---- orders with one rate each

-- lists that are zipped are equally long
zip_count : {X : Type 0} (R : X → ℕ → Type 0) (xs : List X) (ys : List ℕ) → AllZip R xs ys → length ys ≡ length xs
zip_count R [] [] all = refl
zip_count R [] (y ∷ ys) all = absurd all
zip_count R (x ∷ xs) [] all = absurd all
zip_count R (x ∷ xs) (y ∷ ys) all = omega (arith, zip_count R xs ys all.1)

-- what holds of each order and its rate holds of each trade
zip_trades : (R : Order → ℕ → Type 0) (orders : List Order) (rates : List ℕ) → AllZip R orders rates → All (λ t. R t.order t.traded) (trades orders rates)
zip_trades R [] rates all k d inside = absurd (omega (arith, inside))
zip_trades R (o ∷ orders) [] all k d inside = absurd all
zip_trades R (o ∷ orders) (x ∷ rates) all zero d inside = all.0
zip_trades R (o ∷ orders) (x ∷ rates) all (suc k) d inside = zip_trades R orders rates all.1 k d (omega (arith, inside))

-- the published numbers of trades are their orders' numbers
numbers_back : (orders : List Order) (rates : List ℕ) → length rates ≡ length orders → map (λ (f : Fill). f.order) (map fill_of (trades orders rates)) ≡ map (λ (o : Order). o.number) orders
numbers_back [] [] count = refl
numbers_back [] (x ∷ rates) count = absurd (omega (arith, count))
numbers_back (o ∷ orders) [] count = absurd (omega (arith, count))
numbers_back (o ∷ orders) (x ∷ rates) count = ap (λ l. o.number ∷ l) (numbers_back orders rates (omega (arith, count)))

-- rates that are roundings of their orders' demands at these prices, one for each order
pub record AreRoundings (orders : List Order) (prices : List ℤ) (rates : List ℕ) : Type 0 where
  pub count : length rates ≡ length orders
  pub each : All (λ t. IsRounding (terms_of t.order) t.traded (price_for prices t.order)) (trades orders rates)

module _ (orders : List Order) (each : All IsOrder orders) (n : ℕ) (prices : List ℤ) where
  -- rates that are chosen are roundings, whatever the choice
  choices : AllZip (λ o rate. (rate ≡ floor_at prices o) ⊎ ((is_fraction_at prices o ≡ true) × (rate ≡ floor_at prices o + 1))) orders (rates_by_choice n orders prices)
  choices = chosen_are_roundings n (λ o asset. weight_in o.row asset) (floor_at prices) (is_fraction_at prices) (left_by (λ o asset. weight_in o.row asset) orders (map (floor_at prices) orders)) orders

  pub choices_are_roundings : AreRoundings orders prices (rates_by_choice n orders prices)
  choices_are_roundings = record {
    count = zip_count (λ o rate. (rate ≡ floor_at prices o) ⊎ ((is_fraction_at prices o ≡ true) × (rate ≡ floor_at prices o + 1))) orders (rates_by_choice n orders prices) choices;
    each = λ k d inside.
        let ts = trades orders (rates_by_choice n orders prices) in
        let t = slice_index_or ts k d in
        choice_is_rounding (terms_of t.order) (All-trades IsOrder orders (rates_by_choice n orders prices) each k d inside).terms (price_for prices t.order) t.traded
        (zip_trades (λ o rate. (rate ≡ floor_at prices o) ⊎ ((is_fraction_at prices o ≡ true) × (rate ≡ floor_at prices o + 1))) orders (rates_by_choice n orders prices) choices k d inside);
  }

  -- all demands rounded down are roundings
  floors : (orders : List Order) → AllZip (λ o rate. rate ≡ floor_at prices o) orders (map (floor_at prices) orders)
  floors [] = tt
  floors (o ∷ orders) = (refl, floors orders)

  pub floors_are_roundings : AreRoundings orders prices (floor_rates orders prices)
  floors_are_roundings = record {
    count = length-map orders (floor_at prices);
    each = λ k d inside.
        let ts = trades orders (floor_rates orders prices) in
        let t = slice_index_or ts k d in
        choice_is_rounding (terms_of t.order) (All-trades IsOrder orders (floor_rates orders prices) each k d inside).terms (price_for prices t.order) t.traded
        (inl (zip_trades (λ o rate. rate ≡ floor_at prices o) orders (floor_rates orders prices) (floors orders) k d inside));
  }

consistent_each : (orders : List Order) → All IsOrder orders → All IsConsistentOrder orders
consistent_each orders each k d inside = let o = each k d inside in record { limits = o.terms; lawful = o.row }

-- the imbalance of a settled asset is within its tolerance, if all rates are roundings
bounded_at : (orders : List Order) (prices : List ℤ) (rates : List ℕ) → All IsOrder orders → AreRoundings orders prices rates
    → (asset : ℕ) → IsSettled orders prices asset → unsigned_abs (residual (trades orders rates) asset) ≤ residual_bound orders asset
bounded_at orders prices rates each roundings asset settled =
    let ts = trades orders rates in
    let before : before_fills ts ≡ orders = before-trades orders rates roundings.count in
    let bound = residual_within_bound (λ (t : Trade). t.order) (λ t. t.traded) ts prices asset
    (λ k d inside. All-trades IsConsistentOrder orders rates (consistent_each orders each) k d inside) roundings.each (subst (λ l. IsSettled l prices asset) (sym before) settled) in
    subst (λ l. unsigned_abs (residual ts asset) ≤ residual_bound l asset) before bound

-- prices at which all is settled, and that an unnamed asset keeps, give an admissible clearing with any rates that round the demands
pub right_at : (orders : List Order) (start prices : List ℤ) (rates : List ℕ) → All IsOrder orders → AreRoundings orders prices rates → length prices ≡ length start → All IsPrice prices
    → ((asset : ℕ) → asset < length start → IsUnnamed orders asset → price_of prices asset ≡ price_of start asset) → ((asset : ℕ) → asset < length start → IsSettled orders prices asset)
    → IsAdmissibleClearing orders start (clearing_at (length start) prices (trades orders rates))
right_at orders start prices rates each roundings count small unnamed settled =
    let ts = trades orders rates in
    let back : trades_of orders (map fill_of ts) ≡ ts = ap (trades orders) (rates_back orders rates roundings.count) in
    record {
      one_price_each = count;
      small = small;
      unnamed = unnamed;
      numbers = numbers_back orders rates roundings.count;
      roundings = rw back roundings.each;
      residual_each = rw back refl;
      bounded = λ asset inside. rw back (bounded_at orders prices rates each roundings asset (settled asset inside));
      gap_is = rw back refl;
    }

-- ---- one-asset orders

pub single_each : (orders : List Order) → are_single orders ≡ true → All IsSingle orders
single_each [] all k d inside = absurd (omega (arith, inside))
single_each (o ∷ orders) all zero d inside =
    let parts = and_parts (eqb (length o.row) 1) (list_all (λ (o : Order). eqb (length o.row) 1) orders) all in
    ⊎_elim (λ same. same.1) (λ other. absurd (false≢true (sym other.0 ∙ parts.0))) (eqb_tells (length o.row) 1)
single_each (o ∷ orders) all (suc k) d inside = single_each orders (and_parts (eqb (length o.row) 1) (list_all (λ (o : Order). eqb (length o.row) 1) orders) all).1 k d (omega (arith, inside))

-- a book that isn't of one-asset orders has an order that names two or more
pub wide_is : (orders : List Order) → All IsOrder orders → are_single orders ≡ false → IsWide orders
wide_is [] each is = absurd (false≢true (sym is))
wide_is (o ∷ orders) each is =
    ⊎_elim
    (λ one. let rest = wide_is orders (λ k d inside. each (suc k) d (omega (arith, inside))) (rw one.0 at is) in (rest.0, (suc rest.1.0, omega (arith, rest.1.1), rest.1.2), rest.2))
    (λ other. let some = (each 0 o (omega arith)).row.some in (o, (0, omega arith, refl), omega (arith, some, other.1)))
    (eqb_tells (length o.row) 1)

-- moving each unsettled asset once visits all assets
visited_once : (parts : ℕ) (orders : List Order) (assets : List ℕ) (start : List ℤ) → AreVisited parts orders single_reach start assets (moved_once parts orders assets start)
visited_once parts orders [] start = refl
visited_once parts orders (a ∷ assets) start = (cond (is_unsettled orders start a) (moved parts orders single_reach start a) start, visit (is_unsettled orders start a) refl, visited_once parts orders assets (cond (is_unsettled orders start a) (moved parts orders single_reach start a) start))
  where
    visit : (b : Bool) → is_unsettled orders start a ≡ b → IsVisit parts orders single_reach start a (cond b (moved parts orders single_reach start a) start)
    visit true e = inr (moved_is parts orders single_reach start a (omega arith) e)
    visit false e = inl (settled_is orders start a e, refl)

visits_all : (n : ℕ) → visits n 0 ≡ range_with_len 0 n
visits_all n = let none : n - 0 ≡ n = omega arith in append-nil (range_with_len 0 (n - 0)) ∙ ap (range_with_len 0) none

small_price : (p : ℤ) → IsWithin (2 ^ 60) p → IsPrice p
small_price p within = omega (arith, ints, within.0, within.1)

-- visits keep the number of prices
visited_count : (parts : ℕ) (orders : List Order) (assets : List ℕ) (start stop : List ℤ) → AreVisited parts orders single_reach start assets stop → length stop ≡ length start
visited_count parts orders [] start stop same = ap length same
visited_count parts orders (a ∷ assets) start stop visits =
    visited_count parts orders assets visits.0 stop visits.2
    ∙ ⊎_elim (λ stays. ap length stays.1) (λ moves. length-move parts orders single_reach start a moves.0 visits.0 moves.1) visits.1

-- ---- the prices that the canonical rule reaches

record AreRightPrices (orders : List Order) (start prices : List ℤ) : Type 0 where
  count : length prices ≡ length start
  small : All IsPrice prices
  unnamed : (asset : ℕ) → asset < length start → IsUnnamed orders asset → price_of prices asset ≡ price_of start asset
  settled : (asset : ℕ) → asset < length start → IsSettled orders prices asset

all_visited : (parts : ℕ) (orders : List Order) (start end : List ℤ) → end ≡ moved_once parts orders (visits (length start) 0) start → AreVisited parts orders single_reach start (range_with_len 0 (length start)) end
all_visited parts orders start end own =
    let visits_of = visited_once parts orders (visits (length start) 0) start in
    rw (own, ← visits_all (length start)) visits_of

-- moving each unsettled asset once settles all assets
pub settles_once : (parts : ℕ) → 1 ≤ parts → (orders : List Order) (start end : List ℤ) → are_single orders ≡ true → All IsOrder orders → All (IsWithin (2 ^ 60)) start → end ≡ moved_once parts orders (visits (length start) 0) start → IsSettledOnce orders start end
settles_once parts whole orders start end is each range own =
    settles_single parts whole orders single_reach (λ k d inside. record { limits = (each k d inside).terms; lawful = (each k d inside).row }) (single_each orders is) (omega arith) start end range (all_visited parts orders start end own)

near : (p : ℤ) → IsWithin (2 ^ 60) p → unsigned_abs p ≤ 2 ^ 60
near p within = omega (arith, ints, within.0, within.1)

-- the prices at the end of an attempt that succeeds
attempt_is_right : (parts : ℕ) (orders : List Order) (start : List ℤ) (a : Attempt) → IsFair orders start a → Succeeds parts orders a → AreRightPrices orders start (end_of_attempt parts orders a)
attempt_is_right parts orders start a fair settled =
    let walk = canonical_walk parts orders a.from a.budget in
    let n = length a.from in
    let short = shortest_where n (is_unsettled orders) (step_of parts orders) a.budget a.from settled in
    let legal = in_turn-legal n (is_unsettled orders) (step_of parts orders) 0 a.from walk (omega arith) short.in_turn in
    let walked = has_walked parts orders n a.from walk refl legal in
    let at_start : AreWithin (2 ^ 60) a.from = λ k d inside. let one = fair.range k d inside in near (slice_index_or a.from k d) one in
    record {
      count = walked.count ∙ fair.count;
      small = λ k d inside. let one = walked.range (2 ^ 60) at_start k d inside in let length_most = short.within in let few = fair.few in omega (arith, one, length_most, few);
      unnamed = λ asset inside none. walked.unnamed asset none ∙ fair.unnamed asset inside none;
      settled = λ asset inside. let there : asset < length a.from = omega (arith, inside, fair.count) in settled_is orders (end_of parts orders a.from walk) asset (settled asset there);
    }

attempts_are_right : (parts : ℕ) (orders : List Order) (start end : List ℤ) (tries : List Attempt) → AreFair orders start tries → EndsFirst parts orders tries end → AreRightPrices orders start end
attempts_are_right parts orders start end [] fair first = absurd first
attempts_are_right parts orders start end (a ∷ tries) fair first =
    ⊎_elim
    (λ here. subst (AreRightPrices orders start) (sym here.1) (attempt_is_right parts orders start a fair.0 here.0))
    (λ after. attempts_are_right parts orders start end tries fair.1 after.1)
    first

prices_are_right : (search : Search) → 1 ≤ search.parts → (single : Bool) (orders : List Order) (start : List ℤ) (budget : ℕ) (end : List ℤ) → are_single orders ≡ single → All IsOrder orders → All (IsWithin (2 ^ 60)) start → budget ≤ most_budget → ArePricesOf search single orders start budget end → AreRightPrices orders start end
prices_are_right search whole true orders start budget end is each range few own =
    let once = settles_once search.parts whole orders start end is each range own in
    record {
      count = visited_count search.parts orders (range_with_len 0 (length start)) start end (all_visited search.parts orders start end own);
      small = λ k d inside. small_price (slice_index_or end k d) (once.range k d inside);
      unnamed = λ asset inside none. once.kept asset (unnamed_is_settled orders start asset none);
      settled = once.settled;
    }
prices_are_right search whole false orders start budget end is each range few own =
    attempts_are_right search.parts orders start end (attempts search.joint orders start budget) (attempts_are_fair orders start each range search.joint budget few) own

-- the prices that the canonical rule reaches are one for each asset
pub canonical_prices_count : (search : Search) → 1 ≤ search.parts → (orders : List Order) (start : List ℤ) (budget : ℕ) (end : List ℤ) → All IsOrder orders → All (IsWithin (2 ^ 60)) start → budget ≤ most_budget
    → ArePricesOf search (are_single orders) orders start budget end → length end ≡ length start
canonical_prices_count search whole orders start budget end each range few own = (prices_are_right search whole (are_single orders) orders start budget end refl each range few own).count

-- a canonical outcome is admissible
pub canonical_is_admissible : (search : Search) → 1 ≤ search.parts → (orders : List Order) (start : List ℤ) (budget : ℕ) (o : Outcome) → All IsOrder orders → All (IsWithin (2 ^ 60)) start → budget ≤ most_budget → IsCanonicalOutcome search orders start budget o → IsAdmissibleOutcome search orders start budget o
canonical_is_admissible search whole orders start budget (Cleared c) each range few own =
    let prices = prices_are_right search whole (are_single orders) orders start budget c.prices refl each range few own.0 in
    subst (IsAdmissibleClearing orders start) (sym own.1) (right_at orders start c.prices (rates_by_choice (length start) orders c.prices) each (choices_are_roundings orders each (length start) c.prices) prices.count prices.small prices.unnamed prices.settled)
canonical_is_admissible search whole orders start budget (Skipped s) each range few own =
    let n = length start in
    let walk = canonical_walk search.parts orders start budget in
    let left = last_fails search.parts orders search.joint start budget own.1 in
    let trace = trace_where n (is_unsettled orders) (step_of search.parts orders) budget start left in
    subst (IsAdmissibleSkip search.parts orders start budget) (sym own.2) (record {
      wide = wide_is orders each own.0;
      legal = in_turn-legal n (is_unsettled orders) (step_of search.parts orders) 0 start walk (omega arith) trace.in_turn;
      whole = trace.whole;
      unsettled = left;
      duals = refl;
    })
