-- Each clearing of orders within the limits has a verdict: every part is right or wrong.
use Rattle.std.proofs.Common.{◌≡◌, ℕ, zero, suc, ◌+◌, ◌*◌, ◌^◌, ◌<◌, ◌≤◌, ℤ, ◌-ℤ◌, List, [], ◌∷◌, Option, Some, None, map, length, get_or, slice_get, drop, ◌⊎◌, inl, inr, refl, ap, ⊎_elim, arith}
use Rattle.std.specs.Prelude.{unsigned_abs, All, IfSome}
use Rattle.std.proofs.lemmas.Int.{ints}
use Rattle.std.proofs.lemmas.Bool.{cases_lt}
use Rattle.weight_rows.specs.Rows.{price_of}
use Rattle.demand_curve.specs.Demand.{IsRounding, span, scaled_demand}
use Rattle.flow_orders.specs.Orders.{Order, IsOrder, terms_of}
use Rattle.flow_orders.specs.Excess.{price_for, residual_bound}
use Rattle.flow_orders.specs.Trades.{Trade, residual}
use Rattle.flow_orders.specs.Outcomes.{Clearing, IsUnnamed, trades_of, gap_of}
use Rattle.flow_orders.specs.Residuals.{residual_in}
use Rattle.batch_certificate.specs.declared.verdict.Verdict.{Verdict}
use Rattle.batch_certificate.specs.declared.verdict.Verdict.TheVariants.{Right, Count, Price, Rate, Residual, Gap}
use Rattle.batch_certificate.specs.Verdicts.{HoldsBelow, IsFirstWrong, AreCounted, IsPriceRight, IsRateRight, IsResidualRight, HasRightPrices, HasRightRates, HasRightResiduals, IsVerdict}
use Rattle.batch_outcome.specs.Parts.{numbers_in}
use Rattle.batch_certificate.specs.Weighing.{weighed}
use Rattle.batch_certificate.specs.Laws.{EachHasAVerdict}
use Rattle.batch_certificate.proofs.Places.{none_yet, one_more}
use Rattle.batch_certificate.proofs.Verdicts.{no_spread, is_unnamed}

-- something holds or it doesn't
abbrev IsDecided : Type 0 → Type 0
IsDecided P = P ⊎ (¬ P)

both : (P Q : Type 0) → IsDecided P → IsDecided Q → IsDecided (P × Q)
both P Q p q =
    ⊎_elim
    (λ yes_p. ⊎_elim (λ yes_q. inl (yes_p, yes_q)) (λ no_q. inr (λ pair. no_q pair.1)) q)
    (λ no_p. inr (λ pair. no_p pair.0))
    p

decided_as : (P Q : Type 0) → (P → Q) → (Q → P) → IsDecided P → IsDecided Q
decided_as P Q there back p = ⊎_elim (λ holds. inl (there holds)) (λ none. inr (λ q. none (back q))) p

lt_decided : (a b : ℕ) → IsDecided (a < b)
lt_decided a b = ⊎_elim (λ below. inl below) (λ above. inr (λ below. omega (arith, above, below))) (cases_lt a b)

le_decided : (a b : ℕ) → IsDecided (a ≤ b)
le_decided a b = ⊎_elim (λ above. inr (λ within. omega (arith, above, within))) (λ within. inl within) (cases_lt b a)

nat_decided : (a b : ℕ) → IsDecided (a ≡ b)
nat_decided a b =
    ⊎_elim
    (λ below. inr (λ same. omega (arith, below, same)))
    (λ least. ⊎_elim (λ above. inr (λ same. omega (arith, above, same))) (λ most. inl (omega (arith, least, most))) (cases_lt b a))
    (cases_lt a b)

int_decided : (a b : ℤ) → IsDecided (a ≡ b)
int_decided a b =
    ⊎_elim
    (λ apart. inr (λ same. omega (arith, ints, apart, same)))
    (λ near. inl (omega (arith, ints, near)))
    (cases_lt 0 (unsigned_abs (a -ℤ b)))

list_decided : (xs ys : List ℕ) → IsDecided (xs ≡ ys)
list_decided [] [] = inl refl
list_decided [] (y ∷ ys) = inr (λ same. omega (arith, ap length same))
list_decided (x ∷ xs) [] = inr (λ same. omega (arith, ap length same))
list_decided (x ∷ xs) (y ∷ ys) =
    decided_as ((x ≡ y) × (xs ≡ ys)) (x ∷ xs ≡ y ∷ ys)
    (λ pair. rw (pair.0, pair.1) refl)
    (λ same. (ap (λ l. get_or l 0 0) same, ap (drop 1) same))
    (both (x ≡ y) (xs ≡ ys) (nat_decided x y) (list_decided xs ys))

-- all of n places are right, or one is the first that isn't
judged : (Holds : ℕ → Type 0) → ((k : ℕ) → IsDecided (Holds k)) → (n : ℕ) → HoldsBelow Holds n ⊎ ((k : ℕ) × IsFirstWrong Holds n k)
judged Holds each zero = inl (none_yet Holds)
judged Holds each (suc n) =
    ⊎_elim
    (λ all.
    ⊎_elim
    (λ holds. inl (λ k inside. one_more Holds n all holds k (omega (arith, inside))))
    (λ wrong. inr (n, record { inside = omega arith; before = all; wrong = wrong }))
    (each n))
    (λ found. inr (found.0, record { inside = omega (arith, found.1.inside); before = found.1.before; wrong = found.1.wrong }))
    (judged Holds each n)

-- ---- the parts of a clearing
counted_decided : (orders : List Order) (start : List ℤ) (c : Clearing) → IsDecided (AreCounted orders start c)
counted_decided orders start c =
    decided_as (((length c.prices ≡ length start) × (length c.residuals ≡ length start)) × (numbers_in c ≡ map (λ (o : Order). o.number) orders)) (AreCounted orders start c)
    (λ p. record { prices = p.0.0; residuals = p.0.1; numbers = p.1 })
    (λ a. ((a.prices, a.residuals), a.numbers))
    (both _ _ (both _ _ (nat_decided (length c.prices) (length start)) (nat_decided (length c.residuals) (length start))) (list_decided (numbers_in c) (map (λ (o : Order). o.number) orders)))

unnamed_decided : (orders : List Order) (asset : ℕ) → All IsOrder orders → IsDecided (IsUnnamed orders asset)
unnamed_decided orders asset each =
    decided_as (weighed unsigned_abs orders asset ≡ 0) (IsUnnamed orders asset) (is_unnamed orders asset each) (no_spread orders asset each) (nat_decided (weighed unsigned_abs orders asset) 0)

implied : (P Q : Type 0) → IsDecided P → IsDecided Q → IsDecided (P → Q)
implied P Q p q =
    ⊎_elim
    (λ yes_q. inl (λ holds. yes_q))
    (λ no_q. ⊎_elim (λ yes_p. inr (λ f. no_q (f yes_p))) (λ no_p. inl (λ holds. absurd (no_p holds))) p)
    q

price_decided : (orders : List Order) (start : List ℤ) (c : Clearing) → All IsOrder orders → (k : ℕ) → IsDecided (IsPriceRight orders start c k)
price_decided orders start c each k =
    decided_as ((unsigned_abs (price_of c.prices k) ≤ 2 ^ 62) × (IsUnnamed orders k → price_of c.prices k ≡ price_of start k)) (IsPriceRight orders start c k)
    (λ p. record { range = p.0; unnamed = p.1 })
    (λ a. (a.range, a.unnamed))
    (both _ _ (le_decided (unsigned_abs (price_of c.prices k)) (2 ^ 62)) (implied _ _ (unnamed_decided orders k each) (int_decided (price_of c.prices k) (price_of start k))))

some_decided : (P : Trade → Type 0) → ((t : Trade) → IsDecided (P t)) → (found : Option Trade) → IsDecided (IfSome found P)
some_decided P each None = inl tt
some_decided P each (Some t) = each t

rounding_decided : (c : Clearing) (t : Trade) → IsDecided (IsRounding (terms_of t.order) t.traded (price_for c.prices t.order))
rounding_decided c t =
    let s = span (terms_of t.order) in
    let demand = scaled_demand (terms_of t.order) (price_for c.prices t.order) in
    decided_as ((t.traded * s < demand + s) × (demand < t.traded * s + s)) (IsRounding (terms_of t.order) t.traded (price_for c.prices t.order))
    (λ p. record { less_than_one_above = p.0; less_than_one_below = p.1 })
    (λ a. (a.less_than_one_above, a.less_than_one_below))
    (both _ _ (lt_decided (t.traded * s) (demand + s)) (lt_decided demand (t.traded * s + s)))

rate_decided : (orders : List Order) (c : Clearing) (k : ℕ) → IsDecided (IsRateRight orders c k)
rate_decided orders c k =
    some_decided (λ t. IsRounding (terms_of t.order) t.traded (price_for c.prices t.order)) (rounding_decided c) (slice_get (trades_of orders c.fills) k)

residual_decided : (orders : List Order) (c : Clearing) (k : ℕ) → IsDecided (IsResidualRight orders c k)
residual_decided orders c k =
    let left = residual (trades_of orders c.fills) k in
    decided_as ((residual_in c.residuals k ≡ left) × (unsigned_abs left ≤ residual_bound orders k)) (IsResidualRight orders c k)
    (λ p. record { left = p.0; bounded = p.1 })
    (λ a. (a.left, a.bounded))
    (both _ _ (int_decided (residual_in c.residuals k) left) (le_decided (unsigned_abs left) (residual_bound orders k)))

-- ---- the verdict
module _ (orders : List Order) (start : List ℤ) (c : Clearing) where
  abbrev HasVerdict : Type 0
  HasVerdict = (v : Verdict) × IsVerdict orders start c v

  on_gap : HasRightResiduals orders start c → HasVerdict
  on_gap right =
      ⊎_elim
      (λ same. (Right, (right, same)))
      (λ other. (Gap, (right, other)))
      (int_decided c.gap (gap_of c.prices (trades_of orders c.fills)))

  on_residuals : HasRightRates orders start c → HasVerdict
  on_residuals right =
      ⊎_elim
      (λ all. on_gap (record { rated = right; residuals = all }))
      (λ found. (Residual found.0, (right, found.1)))
      (judged (IsResidualRight orders c) (residual_decided orders c) (length start))

  on_rates : HasRightPrices orders start c → HasVerdict
  on_rates right =
      ⊎_elim
      (λ all. on_residuals (record { priced = right; rates = all }))
      (λ found. (Rate found.0, (right, found.1)))
      (judged (IsRateRight orders c) (rate_decided orders c) (length orders))

  on_prices : All IsOrder orders → AreCounted orders start c → HasVerdict
  on_prices each counted =
      ⊎_elim
      (λ all. on_rates (record { counted = counted; prices = all }))
      (λ found. (Price found.0, (counted, found.1)))
      (judged (IsPriceRight orders start c) (price_decided orders start c each) (length start))

pub each_has_a_verdict : EachHasAVerdict
each_has_a_verdict orders start c each =
    ⊎_elim
    (λ counted. on_prices orders start c each counted)
    (λ none. (Count, none))
    (counted_decided orders start c)
