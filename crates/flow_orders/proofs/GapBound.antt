-- What a gap is at most, and that a book has a number that twice each rate divides.
use Rattle.std.proofs.Common.{◌≡◌, ℕ, suc, ◌+◌, ◌*◌, ◌/◌, ◌≤◌, ◌<◌, ℤ, pos, negsuc, ◌-ℤ◌, ◌*ℤ◌, ◌≤ℤ◌, List, [], ◌∷◌, map, length, ap, arith}
use Rattle.std.specs.Prelude.{All, unsigned_abs, slice_index_or}
use Rattle.std.specs.List.{range_with_len, sum_by}
use Rattle.std.proofs.lemmas.Int.{ints}
use Rattle.std.proofs.lemmas.List.Sums.{sum_by-cons}
use Rattle.std.proofs.lemmas.List.FromFn.{length-range_with_len, get_or-range_with_len}
use Rattle.std.proofs.Math.Nat.{mul-div_cancel}
use Rattle.list_sums.specs.Sums.{int_sum_by}
use Rattle.list_sums.proofs.Products.{unsigned_abs-add, unsigned_abs-mul_le}
use Rattle.weight_rows.specs.Rows.{price_of}
use Rattle.demand_curve.specs.Demand.{IsRounding, span, loss}
use Rattle.std.specs.Int.{div_ceil}
use Rattle.demand_curve.proofs.LossLaws.{loss_is_small}
use Rattle.flow_orders.specs.Orders.{Order, IsOrder, terms_of}
use Rattle.flow_orders.specs.Excess.{price_for, residual_bound}
use Rattle.flow_orders.specs.Trades.{Trade, trades, residual, residual_cost}
use Rattle.flow_orders.specs.Outcomes.{trades_of}
use Rattle.flow_orders.specs.Duals.{share}
use Rattle.flow_orders.specs.Laws.{GapsAreBounded, CommonsExist}
use Rattle.flow_orders.proofs.WalkLaws.{walks_lower_the_dual}

losses : (prices : List ℤ) (orders : List Order) (rates : List ℕ) → All IsOrder orders → All (λ t. IsRounding (terms_of t.order) t.traded (price_for prices t.order)) (trades orders rates)
    → sum_by (λ t. loss (terms_of t.order) t.traded (price_for prices t.order)) (trades orders rates) ≤ sum_by (λ o. div_ceil (span (terms_of o)) (2 * o.rate)) orders
losses prices [] rates each rounded = omega arith
losses prices (o ∷ orders) [] each rounded = omega arith
losses prices (o ∷ orders) (x ∷ rates) each rounded =
    let f = λ (t : Trade). loss (terms_of t.order) t.traded (price_for prices t.order) in
    let g = λ (p : Order). div_ceil (span (terms_of p)) (2 * p.rate) in
    let t : Trade = record { order = o; traded = x } in
    let here = (loss_is_small (terms_of o) (each 0 o (omega arith)).terms (price_for prices o) x (rounded 0 t (omega arith))).0 in
    let rest = losses prices orders rates (λ k d inside. each (suc k) d (omega (arith, inside))) (λ k d inside. rounded (suc k) d (omega (arith, inside))) in
    omega (arith, here, rest, sum_by-cons f t (trades orders rates), sum_by-cons g o orders)

costs : (p r : ℕ → ℤ) (B : ℕ → ℕ) (xs : List ℕ) → All (λ a. unsigned_abs (r a) ≤ B a) xs → unsigned_abs (int_sum_by (λ a. p a *ℤ r a) xs) ≤ sum_by (λ a. unsigned_abs (p a) * B a) xs
costs p r B [] each = omega arith
costs p r B (a ∷ xs) each =
    let here = unsigned_abs-mul_le (p a) (r a) (unsigned_abs (p a)) (B a) (omega arith) (each 0 a (omega arith)) in
    let rest = costs p r B xs (λ k d inside. each (suc k) d (omega (arith, inside))) in
    omega (arith, here, rest, unsigned_abs-add (p a *ℤ r a) (int_sum_by (λ b. p b *ℤ r b) xs), sum_by-cons (λ b. unsigned_abs (p b) * B b) a xs)

pub gaps_are_bounded : GapsAreBounded
gaps_are_bounded orders start c each right =
    let ts = trades_of orders c.fills in
    let n = length c.prices in
    let few = length-range_with_len 0 n in
    let lost = losses c.prices orders (map (λ f. f.rate) c.fills) each right.roundings in
    let cost = costs (price_of c.prices) (residual ts) (residual_bound orders) (range_with_len 0 n)
    (λ k d inside. right.bounded (slice_index_or (range_with_len 0 n) k d) (omega (arith, get_or-range_with_len 0 n k d (omega (arith, inside, few)), inside, few, right.one_price_each))) in
    rw right.gap_is (between (sum_by (λ t. loss (terms_of t.order) t.traded (price_for c.prices t.order)) ts) (residual_cost c.prices ts) _ _ lost cost)
  where
    between : (l : ℕ) (z : ℤ) (m n : ℕ) → l ≤ m → unsigned_abs z ≤ n → (pos l -ℤ z) ≤ℤ pos (m + n)
    between l (pos a) m n x y = omega (arith, ints, x, y)
    between l (negsuc a) m n x y = omega (arith, ints, x, y)

divides : (k r s M : ℕ) → 0 < 2 * r → k * (2 * r * s) ≡ M → M / (2 * r) * (2 * r) ≡ M
divides k r s M some parts =
    let sides : k * s * (2 * r) ≡ M = omega (arith, parts) in
    rw (← sides) (ap (λ q. q * (2 * r)) (mul-div_cancel (k * s) some))

pub commons_exist : CommonsExist
commons_exist orders each =
    let there = walks_lower_the_dual.common orders each in (
      there.0,
      (
        there.1.0,
        λ k d inside. let o = slice_index_or orders k d in let terms = (each k d inside).terms in let least = terms.room_least in let most = terms.room_most in
            divides (share there.0 (terms_of o)) o.rate (span (terms_of o)) there.0 (omega (arith, least, most)) (there.1.1 k d inside),
      ),
    )
