-- The amounts that an order moves, as the code computes them.
use Rattle.std.proofs.Common.{◌≡◌, ℕ, ◌^◌, ◌≤◌, ◌<◌, ℤ, pos, ◌+ℤ◌, ◌-ℤ◌, ◌*ℤ◌, FitsSigned, to_z, of_z, to_z-of_z, set, ap, ◌∙◌, arith}
use Rattle.std.specs.Prelude.{unsigned_abs}
use Rattle.std.specs.Int.{Width, w32, w64, w128}
use mir.Val.{hbits}
use Rattle.std.proofs.lemmas.Int.{ints, fits_signed_from_abs}
use Rattle.flow_accounts.specs.Balances.{Account, units_in}

-- a number negated
abbrev pub turned : Width → ℤ → ℤ
turned w z = to_z w (of_z w (pos 0 -ℤ to_z w (of_z w z)))

pub turned_is : (w : Width) (z : ℤ) → FitsSigned w z → unsigned_abs z < 2 ^ hbits w → turned w z ≡ pos 0 -ℤ z
turned_is w z fits small =
    let turned_fits : FitsSigned w (pos 0 -ℤ z) = fits_signed_from_abs w (pos 0 -ℤ z) (omega (arith, ints, small)) in
    rw (to_z-of_z fits, to_z-of_z turned_fits)

-- adding a negated amount takes it away
pub taken_away : (w : Width) (held z amount : ℤ) → FitsSigned w z → unsigned_abs z < 2 ^ hbits w → z ≡ amount → held +ℤ turned w z ≡ held -ℤ amount
taken_away w held z amount fits small is = omega (arith, ints, turned_is w z fits small, is)

-- what was held less what is held now, as the code computes it
abbrev pub gone : ℤ → ℤ → ℤ
gone held now = to_z w128 (of_z w128 (to_z w128 (of_z w128 held) -ℤ to_z w128 (of_z w128 now)))

-- `came` was added to what was held, and `gone` is minus that
pub record IsGone (held now came : ℤ) : Type 0 where
  pub fits : FitsSigned w128 (to_z w128 (of_z w128 held) -ℤ to_z w128 (of_z w128 now))
  pub value : gone held now ≡ pos 0 -ℤ came

pub gone_is : (held now came : ℤ) → FitsSigned w128 held → FitsSigned w128 now → now ≡ held +ℤ came → unsigned_abs came ≤ 2 ^ 110 → IsGone held now came
gone_is held now came held_fits now_fits is small =
    let difference : held -ℤ now ≡ pos 0 -ℤ came = omega (arith, ints, is) in
    let fits : FitsSigned w128 (pos 0 -ℤ came) = fits_signed_from_abs w128 (pos 0 -ℤ came) (omega (arith, ints, small)) in
    record { fits = rw (to_z-of_z held_fits, to_z-of_z now_fits, difference) fits; value = rw (to_z-of_z held_fits, to_z-of_z now_fits, difference) (to_z-of_z fits) }

-- the units of a leg whose weight was passed on
pub amount_is : (units weight : ℤ) (rate : ℕ) → FitsSigned w32 weight → units ≡ to_z w32 (of_z w32 weight) *ℤ pos rate → units ≡ weight *ℤ pos rate
amount_is units weight rate fits is = is ∙ ap (λ w. w *ℤ pos rate) (to_z-of_z fits)

-- the exchange after one leg, as the code computes it
pub exchange_is : (e : Account) (asset : ℕ) (amount price units read cost : ℤ) → FitsSigned w64 units → unsigned_abs units ≤ 2 ^ 36 → units ≡ amount → read ≡ price → unsigned_abs price ≤ 2 ^ 62 → FitsSigned w128 cost
    → cost ≡ to_z w64 (of_z w64 units) *ℤ to_z w64 (of_z w64 read)
    → ◌≡◌ {A = Account} (record { money = e.money +ℤ to_z w128 (of_z w128 cost); units = set e.units asset (units_in e asset +ℤ turned w64 units) })
    (record { money = e.money +ℤ amount *ℤ price; units = set e.units asset (units_in e asset -ℤ amount) })
exchange_is e asset amount price units read cost units_fit small is read_is near cost_fits cost_is =
    let price_fits : FitsSigned w64 price = fits_signed_from_abs w64 price (omega (arith, near)) in
    let same_cost : to_z w128 (of_z w128 cost) ≡ amount *ℤ price =
    to_z-of_z cost_fits ∙ cost_is ∙ ap (λ u. u *ℤ to_z w64 (of_z w64 read)) (to_z-of_z units_fit ∙ is)
    ∙ ap (λ p. amount *ℤ to_z w64 (of_z w64 p)) read_is ∙ ap (λ p. amount *ℤ p) (to_z-of_z price_fits) in
    let less = taken_away w64 (units_in e asset) units amount units_fit (omega (arith, small)) is in
    ap (λ m. record { money = e.money +ℤ m; units = set e.units asset (units_in e asset +ℤ turned w64 units) }) same_cost
    ∙ ap (λ u. record { money = e.money +ℤ amount *ℤ price; units = set e.units asset u }) less
