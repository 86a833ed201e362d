-- Welfare is what a trader expects: of whole rates, of trading nothing, and of equal fractions.
use Rattle.std.proofs.Common.{◌≡◌, ℕ, ◌*◌, ◌/◌, ◌≤◌, ℤ, pos, ◌-ℤ◌, ◌*ℤ◌, List, [], ◌∷◌, map, refl, ap, sym, ◌∙◌, arith}
use Rattle.std.specs.Prelude.{All}
use Rattle.std.proofs.Math.IntN.{*ℤ-zero, zero-*ℤ, pos-*ℤ-pos, *ℤ_comm}
use Rattle.std.proofs.Math.Nat.{mul-le-mul, mul-le-mul_left}
use Rattle.std.proofs.lemmas.Int.{ints}
use Rattle.std.proofs.lemmas.List.{length-map}
use Rattle.std.proofs.lemmas.List.Elements.{All-cons, All-nil, All-tail}
use Rattle.list_sums.specs.Sums.{int_sum_by}
use Rattle.list_sums.proofs.Products.{*ℤ-add, *ℤ-sub, *ℤ-assoc}
use Rattle.weight_rows.specs.Rows.{weight_in}
use Rattle.demand_curve.specs.Demand.{Terms, span}
use Rattle.demand_curve.specs.Welfare.{scaled_welfare}
use Rattle.flow_orders.specs.Orders.{Order, terms_of}
use Rattle.flow_orders.specs.Trades.{Trade, trades, residual}
use Rattle.flow_orders.specs.Welfare.{welfare}
use Rattle.flow_orders.specs.Laws.{WelfareIsAsSaid}

-- a factor distributes over a difference
times_less : (s a d : ℕ) (h : ℤ) → pos s *ℤ (pos a *ℤ h -ℤ pos d) ≡ pos (s * a) *ℤ h -ℤ pos (s * d)
times_less s a d h =
    let split = *ℤ-sub (pos s) (pos a *ℤ h) (pos d) in
    let first : pos s *ℤ (pos a *ℤ h) ≡ pos (s * a) *ℤ h = sym (*ℤ-assoc (pos s) (pos a) h) ∙ ap (λ y. y *ℤ h) (pos-*ℤ-pos s a) in
    omega (arith, ints, split, first, pos-*ℤ-pos s d)

-- the welfare of one order at a whole rate
one_whole : (s q x M S : ℕ) (h : ℤ) → s * (2 * q) ≡ M → pos s *ℤ (pos (2 * q * x * 1) *ℤ h -ℤ pos (S * x * x)) ≡ pos M *ℤ (pos x *ℤ h) -ℤ pos (s * (S * x * x))
one_whole s q x M S h e =
    let units : s * (2 * q * x * 1) ≡ M * x = omega (arith, ap (λ y. y * x) e) in
    let high : pos (s * (2 * q * x * 1)) *ℤ h ≡ pos M *ℤ (pos x *ℤ h) = ap (λ y. pos y *ℤ h) units ∙ ap (λ y. y *ℤ h) (sym (pos-*ℤ-pos M x)) ∙ *ℤ-assoc (pos M) (pos x) h in
    omega (arith, ints, times_less s (2 * q * x * 1) (S * x * x) h, high)

-- the welfare of one order at an equal fraction
one_scaled : (k q n K S : ℕ) (h : ℤ) → pos (2 * q * (k * n) * (k * K)) *ℤ h -ℤ pos (S * (k * n) * (k * n)) ≡ pos (k * k) *ℤ (pos (2 * q * n * K) *ℤ h -ℤ pos (S * n * n))
one_scaled k q n K S h =
    let units : 2 * q * (k * n) * (k * K) ≡ k * k * (2 * q * n * K) = omega arith in
    let squares : S * (k * n) * (k * n) ≡ k * k * (S * n * n) = omega arith in
    ap (λ y. pos y *ℤ h -ℤ pos (S * (k * n) * (k * n))) units ∙ ap (λ y. pos (k * k * (2 * q * n * K)) *ℤ h -ℤ pos y) squares ∙ sym (times_less (k * k) (2 * q * n * K) (S * n * n) h)

-- two factors exchanged
exchanged : (a b c : ℤ) → a *ℤ (b *ℤ c) ≡ b *ℤ (a *ℤ c)
exchanged a b c = sym (*ℤ-assoc a b c) ∙ ap (λ y. y *ℤ c) (*ℤ_comm a b) ∙ *ℤ-assoc b a c

worth_whole : (t : Terms) (s x M : ℕ) → s * (2 * t.rate) ≡ M → pos s *ℤ scaled_welfare t x 1 ≡ pos M *ℤ (pos x *ℤ t.high) -ℤ pos (s * (span t * x * x))
unfolding scaled_welfare
worth_whole t s x M e = one_whole s t.rate x M (span t) t.high e

worth_scaled : (t : Terms) (s k n K : ℕ) → pos s *ℤ scaled_welfare t (k * n) (k * K) ≡ pos (k * k) *ℤ (pos s *ℤ scaled_welfare t n K)
unfolding scaled_welfare
worth_scaled t s k n K = ap (λ y. pos s *ℤ y) (one_scaled k t.rate n K (span t) t.high) ∙ exchanged (pos s) (pos (k * k)) (pos (2 * t.rate * n * K) *ℤ t.high -ℤ pos (span t * n * n))

worth_nothing : (t : Terms) (s K : ℕ) → pos s *ℤ scaled_welfare t 0 K ≡ pos 0
unfolding scaled_welfare
worth_nothing t s K =
    let units : s * (2 * t.rate * 0 * K) ≡ 0 = omega arith in
    let squares : s * (span t * 0 * 0) ≡ 0 = omega arith in
    times_less s (2 * t.rate * 0 * K) (span t * 0 * 0) t.high ∙ ap (λ y. pos y *ℤ t.high -ℤ pos (s * (span t * 0 * 0))) units ∙ ap (λ y. pos 0 *ℤ t.high -ℤ pos y) squares ∙ omega (arith, ints, zero-*ℤ t.high)

whole_is : (M : ℕ) (orders : List Order) (rates : List ℕ) → All (λ o. M / (2 * o.rate) * (2 * o.rate) ≡ M) orders → welfare M 1 (trades orders rates)
    ≡ int_sum_by (λ t. pos M *ℤ (pos t.traded *ℤ t.order.high) -ℤ pos (M / (2 * t.order.rate) * (span (terms_of t.order) * t.traded * t.traded))) (trades orders rates)
whole_is M [] rates all = refl
whole_is M (o ∷ orders) [] all = refl
whole_is M (o ∷ orders) (x ∷ rates) all =
    let first = worth_whole (terms_of o) (M / (2 * o.rate)) x M (all 0 o (omega arith)) in
    omega (arith, ints, first, whole_is M orders rates (All-tail (λ (o : Order). M / (2 * o.rate) * (2 * o.rate) ≡ M) o orders all))

none_is : (M K : ℕ) (orders : List Order) → welfare M K (trades orders (map (λ o. 0) orders)) ≡ pos 0
none_is M K [] = refl
none_is M K (o ∷ orders) = omega (arith, ints, worth_nothing (terms_of o) (M / (2 * o.rate)) K, none_is M K orders)

none_left : (orders : List Order) (asset : ℕ) → residual (trades orders (map (λ o. 0) orders)) asset ≡ pos 0
none_left [] asset = refl
none_left (o ∷ orders) asset = omega (arith, ints, *ℤ-zero (weight_in o.row asset), none_left orders asset)

abbrev IsWithinRoom : ℕ → Trade → Type 0
IsWithinRoom K t = t.traded ≤ K * (terms_of t.order).room

none_within : (K : ℕ) (orders : List Order) → All (IsWithinRoom K) (trades orders (map (λ o. 0) orders))
none_within K [] = All-nil (IsWithinRoom K)
none_within K (o ∷ orders) = All-cons (IsWithinRoom K) (record { order = o; traded = 0 }) (trades orders (map (λ o. 0) orders)) (omega arith) (none_within K orders)

scaled_is : (k M K : ℕ) (orders : List Order) (ns : List ℕ) → welfare M (k * K) (trades orders (map (λ n. k * n) ns)) ≡ pos (k * k) *ℤ welfare M K (trades orders ns)
scaled_is k M K [] ns = sym (*ℤ-zero (pos (k * k)))
scaled_is k M K (o ∷ orders) [] = sym (*ℤ-zero (pos (k * k)))
scaled_is k M K (o ∷ orders) (n ∷ ns) =
    let first = worth_scaled (terms_of o) (M / (2 * o.rate)) k n K in
    let split = *ℤ-add (pos (k * k)) (pos (M / (2 * o.rate)) *ℤ scaled_welfare (terms_of o) n K) (welfare M K (trades orders ns)) in
    omega (arith, ints, first, split, scaled_is k M K orders ns)

scaled_left : (k : ℕ) (orders : List Order) (ns : List ℕ) (asset : ℕ) → residual (trades orders (map (λ n. k * n) ns)) asset ≡ pos k *ℤ residual (trades orders ns) asset
scaled_left k [] ns asset = sym (*ℤ-zero (pos k))
scaled_left k (o ∷ orders) [] asset = sym (*ℤ-zero (pos k))
scaled_left k (o ∷ orders) (n ∷ ns) asset =
    let w = weight_in o.row asset in
    let first : w *ℤ pos (k * n) ≡ pos k *ℤ (w *ℤ pos n) = ap (λ y. w *ℤ y) (sym (pos-*ℤ-pos k n)) ∙ exchanged w (pos k) (pos n) in
    let split = *ℤ-add (pos k) (w *ℤ pos n) (residual (trades orders ns) asset) in
    omega (arith, ints, first, split, scaled_left k orders ns asset)

scaled_within : (k K : ℕ) (orders : List Order) (ns : List ℕ) → All (IsWithinRoom K) (trades orders ns) → All (IsWithinRoom (k * K)) (trades orders (map (λ n. k * n) ns))
scaled_within k K [] ns all = All-nil (IsWithinRoom (k * K))
scaled_within k K (o ∷ orders) [] all = All-nil (IsWithinRoom (k * K))
scaled_within k K (o ∷ orders) (n ∷ ns) all =
    let t : Trade = record { order = o; traded = n } in
    let one : n ≤ K * (terms_of o).room = all 0 t (omega arith) in
    let more : k * n ≤ k * K * (terms_of o).room = omega (arith, mul-le-mul_left k one) in
    All-cons (IsWithinRoom (k * K)) (record { order = o; traded = k * n }) (trades orders (map (λ n. k * n) ns)) more (scaled_within k K orders ns (All-tail (IsWithinRoom K) t (trades orders ns) all))

pub welfare_is_as_said : WelfareIsAsSaid
welfare_is_as_said = record {
  whole = λ M orders rates common. whole_is M orders rates common.1;
  none_balanced = λ K orders some. record {
    some = some;
    one_each = length-map orders (λ (o : Order). 0);
    within = none_within K orders;
    nothing_left = none_left orders;
  };
  none_worth = none_is;
  scaled_balanced = λ k K orders ns some balanced. record {
    some = mul-le-mul {n₁ = 1} {m₁ = 1} some balanced.some;
    one_each = length-map ns (λ n. k * n) ∙ balanced.one_each;
    within = scaled_within k K orders ns balanced.within;
    nothing_left = λ asset. scaled_left k orders ns asset ∙ ap (λ y. pos k *ℤ y) (balanced.nothing_left asset) ∙ *ℤ-zero (pos k);
  };
  scaled_worth = scaled_is;
}
