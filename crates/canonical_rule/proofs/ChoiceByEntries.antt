-- The sum of absolute imbalances is adjusted leg by leg, and chosen rates are roundings of the demand.
use Rattle.std.proofs.Common.{◌≡◌, ◌≢◌, ℕ, suc, zero, ◌+◌, ◌≤◌, ◌<◌, true, ltb, ℤ, pos, ◌+ℤ◌, List, [], ◌∷◌, length, get_or, ◌⊎◌, inl, inr, ap, refl, sym, ⊎_elim, ne_eqb, arith}
use Rattle.std.specs.Prelude.{unsigned_abs, All, AllPairs}
use Rattle.std.specs.List.{range_with_len, sum_by}
use Rattle.std.proofs.lemmas.Int.{ints}
use Rattle.std.proofs.lemmas.Bool.{cases_lt, ltb-true, eq-eqb}
use Rattle.std.proofs.lemmas.List.Sums.{sum_by-cons}
use Rattle.std.proofs.lemmas.List.Kept.{AllPairs-from_increasing}
use Rattle.weight_rows.specs.declared.entries.Entry.{Entry}
use Rattle.weight_rows.specs.Rows.{assets_of, IsWeightVector, weight_in}
use Rattle.demand_curve.specs.Demand.{Terms, IsWithinLimits, IsRounding, floor_rate, ceil_rate}
use Rattle.demand_curve.proofs.RoundingLaws.{roundings_enclose_demand, roundings_are_floor_and_ceil}
use Rattle.canonical_rule.specs.Choice.{absolute_sum}

module _ (f g : ℕ → ℕ) (m : ℕ) (same : (k : ℕ) → k ≢ m → f k ≡ g k) where
  apart : (a n : ℕ) → m < a → sum_by f (range_with_len a n) ≡ sum_by g (range_with_len a n)
  apart a zero below = refl
  apart a (suc n) below =
      omega (arith, sum_by-cons f a (range_with_len (a + 1) n), sum_by-cons g a (range_with_len (a + 1) n), same a (λ e. omega (arith, e, below)), apart (a + 1) n (omega (arith, below)))

  -- two sums over a range that differ at one place
  pub sum_by-one_place : (a n : ℕ) → a ≤ m → m < a + n → sum_by f (range_with_len a n) + g m ≡ sum_by g (range_with_len a n) + f m
  sum_by-one_place a zero least most = absurd (omega (arith, least, most))
  sum_by-one_place a (suc n) least most =
      let first = sum_by-cons f a (range_with_len (a + 1) n) in
      let second = sum_by-cons g a (range_with_len (a + 1) n) in
      ⊎_elim
      (λ later. omega (arith, first, second, same a (λ e. omega (arith, e, later)), sum_by-one_place (a + 1) n (omega (arith, later)) (omega (arith, most))))
      (λ here.
      let at : m ≡ a = omega (arith, here, least) in
      omega (arith, first, second, ap f at, ap g at, apart (a + 1) n (omega (arith, at))))
      (cases_lt a m)

absent : (row : List Entry) (asset : ℕ) → ((k : ℕ) → k < length (assets_of row) → asset < get_or (assets_of row) k 0) → weight_in row asset ≡ pos 0
unfolding weight_in
absent [] asset above = refl
absent (e ∷ row) asset above =
    let other : e.asset ≢ asset = λ same. omega (arith, same, above 0 (omega arith)) in
    rw (ne_eqb e.asset asset other) (absent row asset (λ k within. above (suc k) (omega (arith, within))))

weight_first : (e : Entry) (row : List Entry) → weight_in (e ∷ row) e.asset ≡ e.weight
unfolding weight_in
weight_first e row = rw (eq-eqb e.asset e.asset refl)

weight_other : (e : Entry) (row : List Entry) (asset : ℕ) → asset ≢ e.asset → weight_in (e ∷ row) asset ≡ weight_in row asset
unfolding weight_in
weight_other e row asset other = rw (ne_eqb e.asset asset (λ same. other (sym same)))

weight_none : (asset : ℕ) → weight_in [] asset ≡ pos 0
unfolding weight_in
weight_none asset = refl

module _ (n : ℕ) (r : ℕ → ℤ) where
  by_entries : (row : List Entry) → AllPairs (λ x y. x < y) (assets_of row) → All (λ e. e.asset < n) row
      → absolute_sum n (λ asset. r asset +ℤ weight_in row asset) + sum_by (λ e. unsigned_abs (r e.asset)) row
      ≡ absolute_sum n r + sum_by (λ e. unsigned_abs (r e.asset +ℤ e.weight)) row
  by_entries [] ascend there =
      let same = nothing 0 n in
      omega (arith, same)
    where
      nothing : (a m : ℕ) → sum_by (λ asset. unsigned_abs (r asset +ℤ weight_in [] asset)) (range_with_len a m) ≡ sum_by (λ asset. unsigned_abs (r asset)) (range_with_len a m)
      nothing a zero = refl
      nothing a (suc m) =
          let term : unsigned_abs (r a +ℤ weight_in [] a) ≡ unsigned_abs (r a) = rw (weight_none a) (omega (arith, ints)) in
          omega (arith, sum_by-cons (λ asset. unsigned_abs (r asset +ℤ weight_in [] asset)) a (range_with_len (a + 1) m), sum_by-cons (λ asset. unsigned_abs (r asset)) a (range_with_len (a + 1) m), term, nothing (a + 1) m)
  by_entries (e ∷ row) ascend there =
      let now : ℕ → ℕ = λ asset. unsigned_abs (r asset +ℤ weight_in (e ∷ row) asset) in
      let rest : ℕ → ℕ = λ asset. unsigned_abs (r asset +ℤ weight_in row asset) in
      let inside : e.asset < n = there 0 e (omega arith) in
      let place = sum_by-one_place now rest e.asset (λ k other. ap (λ w. unsigned_abs (r k +ℤ w)) (weight_other e row k other)) 0 n (omega arith) (omega (arith, inside)) in
      let here : now e.asset ≡ unsigned_abs (r e.asset +ℤ e.weight) = ap (λ w. unsigned_abs (r e.asset +ℤ w)) (weight_first e row) in
      let none : weight_in row e.asset ≡ pos 0 = absent row e.asset (λ k within. ascend 0 (suc k) 0 (omega arith) (omega (arith, within))) in
      let before : rest e.asset ≡ unsigned_abs (r e.asset) = rw none (omega (arith, ints)) in
      let tail = by_entries row (λ i j d below within. ascend (suc i) (suc j) d (omega (arith, below)) (omega (arith, within))) (λ k d within. there (suc k) d (omega (arith, within))) in
      omega (arith, place, here, before, tail, sum_by-cons (λ (e : Entry). unsigned_abs (r e.asset)) e row, sum_by-cons (λ (e : Entry). unsigned_abs (r e.asset +ℤ e.weight)) e row)

  -- one unit more of a portfolio changes the sum of absolute imbalances by the changes of its legs
  pub absolute_sum_by_entries : (row : List Entry) → IsWeightVector row → All (λ e. e.asset < n) row
      → absolute_sum n (λ asset. r asset +ℤ weight_in row asset) + sum_by (λ e. unsigned_abs (r e.asset)) row
      ≡ absolute_sum n r + sum_by (λ e. unsigned_abs (r e.asset +ℤ e.weight)) row
  absolute_sum_by_entries row lawful there = by_entries row (AllPairs-from_increasing (assets_of row) lawful.ascending) there

-- the demand rounded down, or one more if it isn't whole, is a rounding
pub choice_is_rounding : (t : Terms) → IsWithinLimits t → (price : ℤ) (rate : ℕ)
    → (rate ≡ floor_rate t price) ⊎ ((ltb (floor_rate t price) (ceil_rate t price) ≡ true) × (rate ≡ floor_rate t price + 1)) → IsRounding t rate price
choice_is_rounding t h price rate choice =
    (roundings_are_floor_and_ceil t h price rate).1
    (⊎_elim
    (λ down. inl down)
    (λ up. let apart = ltb-true (floor_rate t price) (ceil_rate t price) up.0 in inr (omega (arith, up.1, apart, (roundings_enclose_demand t h price).one_apart)))
    choice)
