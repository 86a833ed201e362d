-- Whether an asset is even, as tests tell it.
use Rattle.std.proofs.Common.{◌≡◌, IsTrue, ◌⊎◌, inl, inr, ◌↔◌, ℕ, Bool, true, false, ◌&&◌, ◌||◌, ℤ, pos, ◌≤ℤ◌, ◌<ℤ◌, List, refl, sym, ◌∙◌, arith}
use Rattle.std.specs.Prelude.{All, int_lt, int_le}
use Rattle.std.proofs.lemmas.Int.{ints}
use Rattle.std.proofs.lemmas.Bool.{cases_Bool, and_parts, or_parts, true≢false}
use Rattle.flow_orders.specs.Orders.{Order, IsOrder}
use Rattle.flow_orders.specs.Excess.{low_excess_in, high_excess_in}
use Rattle.flow_orders.specs.Moves.{risen, fallen}
use Rattle.flow_orders.proofs.MoveLaws.{parts_narrow_excess}
use Rattle.even_prices.specs.Even.{even_parts, IsEven, is_too_low, is_too_high, is_uneven}
use Rattle.even_prices.specs.Laws.{UnevenIsTested}
use Rattle.even_prices.proofs.Steadiness.{one_fails}

none_holds : (a b : Bool) → a ≡ false → b ≡ false → (a || b) ≡ false
none_holds true b e f = e
none_holds false b e f = f

first_fails : (a b : Bool) → a ≡ false → (a && b) ≡ false
first_fails true b e = absurd (true≢false e)
first_fails false b e = refl

second_fails : (a b : Bool) → b ≡ false → (a && b) ≡ false
second_fails true b e = e
second_fails false b e = refl

-- tests that fail
lt_fails : (a b : ℤ) → b ≤ℤ a → int_lt a b ≡ false
lt_fails a b h = elim (cases_Bool (int_lt a b)) [ inl less ↦ absurd (omega (arith, ints, less, h)) | inr not ↦ not ]

le_fails : (a b : ℤ) → b <ℤ a → int_le a b ≡ false
le_fails a b h = elim (cases_Bool (int_le a b)) [ inl less ↦ absurd (omega (arith, ints, less, h)) | inr not ↦ not ]

-- tests that hold
lt_holds : (a b : ℤ) → a <ℤ b → int_lt a b ≡ true
lt_holds a b h = elim (cases_Bool (int_lt a b)) [ inl less ↦ less | inr not ↦ absurd (omega (arith, ints, not, h)) ]

le_holds : (a b : ℤ) → ¬ (b <ℤ a) → int_le a b ≡ true
le_holds a b h = elim (cases_Bool (int_le a b)) [ inl less ↦ less | inr not ↦ absurd (h (omega (arith, ints, not))) ]

both_hold : (a b : Bool) → a ≡ true → b ≡ true → (a && b) ≡ true
both_hold true b e f = f
both_hold false b e f = e

first_holds : (a b : Bool) → a ≡ true → (a || b) ≡ true
first_holds true b e = refl
first_holds false b e = absurd (true≢false (sym e))

second_holds : (a b : Bool) → b ≡ true → (a || b) ≡ true
second_holds true b e = refl
second_holds false b e = e

-- what a test denies isn't so
pub denied : {P : Type 0} (tested : Bool) → tested ≡ false → IsTrue tested ↔ P → ¬ P
denied tested fails tells holds = true≢false (sym (tells.1 holds) ∙ fails)

-- an excess isn't on the wrong side, or that a grain further is
low_out : (a b : ℤ) → (int_lt (pos 0) a && int_le (pos 0) b) ≡ false → (a ≤ℤ pos 0) ⊎ (b <ℤ pos 0)
low_out a b e = elim (one_fails (int_lt (pos 0) a) (int_le (pos 0) b) e) [ inl first ↦ inl (omega (arith, ints, first)) | inr second ↦ inr (omega (arith, ints, second)) ]

low_in : (a b : ℤ) → (a ≤ℤ pos 0) ⊎ (b <ℤ pos 0) → (int_lt (pos 0) a && int_le (pos 0) b) ≡ false
low_in a b e =
    elim e [
      | inl first ↦ first_fails (int_lt (pos 0) a) (int_le (pos 0) b) (lt_fails (pos 0) a first)
      | inr second ↦ second_fails (int_lt (pos 0) a) (int_le (pos 0) b) (le_fails (pos 0) b second)
    ]

high_out : (a b : ℤ) → (int_lt a (pos 0) && int_le b (pos 0)) ≡ false → (pos 0 ≤ℤ a) ⊎ (pos 0 <ℤ b)
high_out a b e = elim (one_fails (int_lt a (pos 0)) (int_le b (pos 0)) e) [ inl first ↦ inl (omega (arith, ints, first)) | inr second ↦ inr (omega (arith, ints, second)) ]

high_in : (a b : ℤ) → (pos 0 ≤ℤ a) ⊎ (pos 0 <ℤ b) → (int_lt a (pos 0) && int_le b (pos 0)) ≡ false
high_in a b e =
    elim e [
      | inl first ↦ first_fails (int_lt a (pos 0)) (int_le b (pos 0)) (lt_fails a (pos 0) first)
      | inr second ↦ second_fails (int_lt a (pos 0)) (int_le b (pos 0)) (le_fails b (pos 0) second)
    ]

module _ (orders : List Order) (prices : List ℤ) (asset : ℕ) where
  -- both halves of the test
  pub even_where : is_too_low orders prices asset ≡ false → is_too_high orders prices asset ≡ false → IsEven orders prices asset
  even_where not_low not_high = record {
    not_too_low = low_out (low_excess_in even_parts orders prices asset) (high_excess_in even_parts orders (risen prices asset 1) asset) not_low;
    not_too_high = high_out (high_excess_in even_parts orders prices asset) (low_excess_in even_parts orders (fallen prices asset 1) asset) not_high;
  }

  pub not_low : IsEven orders prices asset → is_too_low orders prices asset ≡ false
  not_low even = low_in (low_excess_in even_parts orders prices asset) (high_excess_in even_parts orders (risen prices asset 1) asset) even.not_too_low

  pub not_high : IsEven orders prices asset → is_too_high orders prices asset ≡ false
  not_high even = high_in (high_excess_in even_parts orders prices asset) (low_excess_in even_parts orders (fallen prices asset 1) asset) even.not_too_high

  -- the test tells
  pub tells : (is_uneven orders prices asset ≡ false) ↔ IsEven orders prices asset
  unfolding is_uneven
  tells = (
    (λ e. let parts = or_parts (is_too_low orders prices asset) (is_too_high orders prices asset) e in even_where parts.0 parts.1),
    (λ even. none_holds (is_too_low orders prices asset) (is_too_high orders prices asset) (not_low even) (not_high even)),
  )

  -- a price that is too low isn't too high
  pub one_way : All IsOrder orders → is_too_low orders prices asset ≡ true → is_too_high orders prices asset ≡ false
  one_way each too_low =
      let above = (and_parts (int_lt (pos 0) (low_excess_in even_parts orders prices asset)) (int_le (pos 0) (high_excess_in even_parts orders (risen prices asset 1) asset)) too_low).0 in
      let order = (parts_narrow_excess even_parts orders prices asset each).between in
      first_fails (int_lt (high_excess_in even_parts orders prices asset) (pos 0)) (int_le (low_excess_in even_parts orders (fallen prices asset 1) asset) (pos 0))
      (lt_fails (high_excess_in even_parts orders prices asset) (pos 0) (omega (arith, ints, above, order)))

  -- a price that is found too low, and one that is found too high
  pub found_low : (low : ℤ) (over : Bool) → low ≡ low_excess_in even_parts orders prices asset → pos 0 <ℤ low
      → IsTrue over ↔ (high_excess_in even_parts orders (risen prices asset 1) asset <ℤ pos 0) → over ≡ false → is_uneven orders prices asset ≡ true
  unfolding is_uneven
  found_low low over low_is above tells fails =
      first_holds (is_too_low orders prices asset) (is_too_high orders prices asset)
      (both_hold (int_lt (pos 0) (low_excess_in even_parts orders prices asset)) (int_le (pos 0) (high_excess_in even_parts orders (risen prices asset 1) asset))
      (lt_holds (pos 0) (low_excess_in even_parts orders prices asset) (rw low_is at above))
      (le_holds (pos 0) (high_excess_in even_parts orders (risen prices asset 1) asset) (denied over fails tells)))

  pub found_high : (high : ℤ) (short : Bool) → high ≡ high_excess_in even_parts orders prices asset → high <ℤ pos 0
      → IsTrue short ↔ (pos 0 <ℤ low_excess_in even_parts orders (fallen prices asset 1) asset) → short ≡ false → is_uneven orders prices asset ≡ true
  unfolding is_uneven
  found_high high short high_is below tells fails =
      second_holds (is_too_low orders prices asset) (is_too_high orders prices asset)
      (both_hold (int_lt (high_excess_in even_parts orders prices asset) (pos 0)) (int_le (low_excess_in even_parts orders (fallen prices asset 1) asset) (pos 0))
      (lt_holds (high_excess_in even_parts orders prices asset) (pos 0) (rw high_is at below))
      (le_holds (low_excess_in even_parts orders (fallen prices asset 1) asset) (pos 0) (denied short fails tells)))

pub uneven_is_tested : UnevenIsTested
uneven_is_tested = record { even = tells; one_way = one_way }
