-- Rates of an admissible clearing are optimal within their gap.
use Rattle.std.proofs.Common.{◌≡◌, ℕ, suc, ◌*◌, ◌/◌, ◌≤◌, ℤ, pos, ◌*ℤ◌, List, [], ◌∷◌, map, length, refl, ap, ◌∙◌, arith}
use Rattle.std.specs.Prelude.{All}
use Rattle.std.specs.List.{range_with_len, sum_by}
use Rattle.std.proofs.lemmas.Int.{ints}
use Rattle.std.proofs.lemmas.List.{length-map}
use Rattle.std.proofs.lemmas.List.Sums.{sum_by-cons}
use Rattle.std.proofs.lemmas.List.Elements.{All-cons, All-nil}
use Rattle.list_sums.specs.Sums.{int_sum_by}
use Rattle.weight_rows.specs.Rows.{IsPricedBy, price_of}
use Rattle.list_sums.proofs.SumLemmas.{int_sum_by-same}
use Rattle.demand_curve.specs.Demand.{IsRounding, loss}
use Rattle.flow_orders.specs.Orders.{Order, IsOrder, terms_of}
use Rattle.flow_orders.specs.Excess.{price_for}
use Rattle.flow_orders.specs.Trades.{Trade, trades, residual, residual_cost}
use Rattle.flow_orders.specs.Outcomes.{Fill, Clearing, gap_of, IsAdmissibleClearing}
use Rattle.flow_orders.specs.Welfare.{welfare, IsOptimalWithin}
use Rattle.flow_orders.proofs.Gap.{Part, IsPart, better, published, lost, net, cost_of_residuals, optimal_within_gap}

-- an order with its rate, and with another rate
abbrev part_of : ℕ → Order → ℕ → ℕ → Part
part_of M o x n = record { terms = terms_of o; row = o.row; rate = x; other = n; share = M / (2 * o.rate) }

abbrev parts : ℕ → List Order → List ℕ → List ℕ → List Part
parts M (o ∷ orders) (x ∷ xs) (n ∷ ns) = part_of M o x n ∷ parts M orders xs ns
parts M _ _ _ = []

module _ (prices : List ℤ) (K M : ℕ) where
  sum_better : (orders : List Order) (xs ns : List ℕ) → length xs ≡ length orders → length ns ≡ length orders → int_sum_by (better prices K M) (parts M orders xs ns) ≡ welfare M K (trades orders ns)
  unfolding better
  sum_better [] xs ns a b = refl
  sum_better (o ∷ orders) [] ns a b = absurd (omega (arith, a))
  sum_better (o ∷ orders) (x ∷ xs) [] a b = absurd (omega (arith, b))
  sum_better (o ∷ orders) (x ∷ xs) (n ∷ ns) a b = omega (arith, ints, sum_better orders xs ns (omega (arith, a)) (omega (arith, b)))

  sum_published : (orders : List Order) (xs ns : List ℕ) → length xs ≡ length orders → length ns ≡ length orders → int_sum_by (published prices K M) (parts M orders xs ns) ≡ welfare M 1 (trades orders xs)
  unfolding published
  sum_published [] xs ns a b = refl
  sum_published (o ∷ orders) [] ns a b = absurd (omega (arith, a))
  sum_published (o ∷ orders) (x ∷ xs) [] a b = absurd (omega (arith, b))
  sum_published (o ∷ orders) (x ∷ xs) (n ∷ ns) a b = omega (arith, ints, sum_published orders xs ns (omega (arith, a)) (omega (arith, b)))

  abbrev lost_of : Trade → ℕ
  lost_of t = loss (terms_of t.order) t.traded (price_for prices t.order)

  sum_lost : (orders : List Order) (xs ns : List ℕ) → length xs ≡ length orders → length ns ≡ length orders → int_sum_by (lost prices K M) (parts M orders xs ns) ≡ pos (sum_by lost_of (trades orders xs))
  unfolding lost
  sum_lost [] xs ns a b = refl
  sum_lost (o ∷ orders) [] ns a b = absurd (omega (arith, a))
  sum_lost (o ∷ orders) (x ∷ xs) [] a b = absurd (omega (arith, b))
  sum_lost (o ∷ orders) (x ∷ xs) (n ∷ ns) a b =
      let rest = sum_lost orders xs ns (omega (arith, a)) (omega (arith, b)) in
      let split = sum_by-cons lost_of (record { order = o; traded = x }) (trades orders xs) in
      omega (arith, ints, rest, split)

  net_rates : (orders : List Order) (xs ns : List ℕ) (asset : ℕ) → length xs ≡ length orders → length ns ≡ length orders → net prices K M (λ p. p.rate) (parts M orders xs ns) asset ≡ residual (trades orders xs) asset
  unfolding net
  net_rates [] xs ns asset a b = refl
  net_rates (o ∷ orders) [] ns asset a b = absurd (omega (arith, a))
  net_rates (o ∷ orders) (x ∷ xs) [] asset a b = absurd (omega (arith, b))
  net_rates (o ∷ orders) (x ∷ xs) (n ∷ ns) asset a b = omega (arith, ints, net_rates orders xs ns asset (omega (arith, a)) (omega (arith, b)))

  net_others : (orders : List Order) (xs ns : List ℕ) (asset : ℕ) → length xs ≡ length orders → length ns ≡ length orders → net prices K M (λ p. p.other) (parts M orders xs ns) asset ≡ residual (trades orders ns) asset
  unfolding net
  net_others [] xs ns asset a b = refl
  net_others (o ∷ orders) [] ns asset a b = absurd (omega (arith, a))
  net_others (o ∷ orders) (x ∷ xs) [] asset a b = absurd (omega (arith, b))
  net_others (o ∷ orders) (x ∷ xs) (n ∷ ns) asset a b = omega (arith, ints, net_others orders xs ns asset (omega (arith, a)) (omega (arith, b)))

  cost_is : (orders : List Order) (xs ns : List ℕ) → length xs ≡ length orders → length ns ≡ length orders → cost_of_residuals prices K M (parts M orders xs ns) ≡ residual_cost prices (trades orders xs)
  unfolding cost_of_residuals
  cost_is orders xs ns a b =
      int_sum_by-same (λ asset. price_of prices asset *ℤ net prices K M (λ p. p.rate) (parts M orders xs ns) asset) (λ asset. price_of prices asset *ℤ residual (trades orders xs) asset) (range_with_len 0 (length prices))
      (λ asset. ap (λ y. price_of prices asset *ℤ y) (net_rates orders xs ns asset a b))

  abbrev IsRounded : Trade → Type 0
  IsRounded t = IsRounding (terms_of t.order) t.traded (price_for prices t.order)

  abbrev IsWithinRoom : Trade → Type 0
  IsWithinRoom t = t.traded ≤ K * (terms_of t.order).room

  tail : {X : Type 0} (P : X → Type 0) (x : X) (xs : List X) → All P (x ∷ xs) → All P xs
  tail P x xs all k d inside = all (suc k) d (omega (arith, inside))

  each_part : (orders : List Order) (xs ns : List ℕ) → length xs ≡ length orders → length ns ≡ length orders → All IsOrder orders → All (λ o. IsPricedBy o.row prices) orders
      → All (λ o. M / (2 * o.rate) * (2 * o.rate) ≡ M) orders → All IsRounded (trades orders xs) → All IsWithinRoom (trades orders ns) → All (IsPart prices K M) (parts M orders xs ns)
  each_part [] xs ns a b order priced share rounded within = All-nil (IsPart prices K M)
  each_part (o ∷ orders) [] ns a b order priced share rounded within = absurd (omega (arith, a))
  each_part (o ∷ orders) (x ∷ xs) [] a b order priced share rounded within = absurd (omega (arith, b))
  each_part (o ∷ orders) (x ∷ xs) (n ∷ ns) a b order priced share rounded within =
      let first : IsOrder o = order 0 o (omega arith) in
      let t : Trade = record { order = o; traded = x } in
      let s : Trade = record { order = o; traded = n } in
      All-cons (IsPart prices K M) (part_of M o x n) (parts M orders xs ns)
      (record { limits = first.terms; lawful = first.row; priced = priced 0 o (omega arith); rounding = rounded 0 t (omega arith); within = within 0 s (omega arith); parts = share 0 o (omega arith) })
      (each_part orders xs ns (omega (arith, a)) (omega (arith, b)) (tail IsOrder o orders order) (tail (λ (o : Order). IsPricedBy o.row prices) o orders priced) (tail (λ (o : Order). M / (2 * o.rate) * (2 * o.rate) ≡ M) o orders share)
      (tail IsRounded t (trades orders xs) rounded) (tail IsWithinRoom s (trades orders ns) within))

-- no balanced rates beat rates that are roundings of the demands at some prices by more than the gap at these prices
pub roundings_are_optimal : (orders : List Order) (prices : List ℤ) (xs : List ℕ) → All IsOrder orders → All (λ o. IsPricedBy o.row prices) orders → length xs ≡ length orders
    → All (λ t. IsRounding (terms_of t.order) t.traded (price_for prices t.order)) (trades orders xs) → IsOptimalWithin (gap_of prices (trades orders xs)) orders xs
roundings_are_optimal orders prices xs order priced count rounded = record {
  one_each = count;
  best = λ M K ns common balanced.
      let count_too = balanced.one_each in
      let all = each_part prices K M orders xs ns count count_too order priced common.1 rounded balanced.within in
      let best = optimal_within_gap prices K M (parts M orders xs ns) all (λ asset. net_others prices K M orders xs ns asset count count_too ∙ balanced.nothing_left asset) in
      rw (← sum_better prices K M orders xs ns count count_too, ← sum_published prices K M orders xs ns count count_too, ← sum_lost prices K M orders xs ns count count_too, ← cost_is prices K M orders xs ns count count_too) best;
}

-- no balanced rates beat the rates of an admissible clearing by more than its gap
pub right_is_optimal : (orders : List Order) (start : List ℤ) (c : Clearing) → All IsOrder orders → All (λ o. IsPricedBy o.row start) orders → IsAdmissibleClearing orders start c → IsOptimalWithin c.gap orders (map (λ (f : Fill). f.rate) c.fills)
right_is_optimal orders start c order priced right =
    let xs = map (λ (f : Fill). f.rate) c.fills in
    let numbers = ap length right.numbers in
    let count : length xs ≡ length orders = omega (arith, numbers, length-map c.fills (λ (f : Fill). f.rate), length-map c.fills (λ (f : Fill). f.order), length-map orders (λ (o : Order). o.number)) in
    rw right.gap_is (roundings_are_optimal orders c.prices xs order (λ k d inside j e within. let one = priced k d inside j e within in omega (arith, one, right.one_price_each)) count right.roundings)
