-- A move whose end is known: its excess is needed at two prices only.
use Rattle.std.proofs.Common.{◌≡◌, ℕ, suc, ◌≤◌, ◌<◌, ⊎_elim, Bool, true, false, not, ℤ, pos, ◌+ℤ◌, ◌-ℤ◌, List, length, refl, ap, sym, ◌∙◌, arith}
use Rattle.std.specs.Prelude.{All}
use Rattle.std.proofs.lemmas.Int.{ints}
use Rattle.std.proofs.lemmas.Bool.{false≢true, cases_lt}
use Rattle.weight_rows.specs.Rows.{price_of}
use Rattle.flow_orders.specs.Orders.{Order}
use Rattle.flow_orders.specs.Excess.{is_above_in, is_below_in}
use Rattle.flow_orders.specs.WholeUnits.{is_above, is_below}
use Rattle.flow_orders.specs.Moves.{risen, fallen, rise_of, fall_of, moved, amount_of}
use Rattle.flow_orders.proofs.Book.{IsConsistent}
use Rattle.flow_orders.proofs.WholeUnits.{above_one, below_one}
use Rattle.flow_orders.proofs.BookLaws.{low_excess-falls, high_excess-falls}
use Rattle.flow_orders.proofs.Moving.{IsLeast, least_amount_is, above_in_is, not_above_in_is, below_in_is, not_below_in_is}

not_true : (b : Bool) → not b ≡ true → b ≡ false
not_true true e = absurd (false≢true e)
not_true false e = refl

-- the least number that passes, if it passes, the one before it fails, and all before that fail too
least_exactly : (passes : ℕ → Bool) (reach d e : ℕ) → e < reach → IsLeast passes reach d → passes (suc e) ≡ true → (d ≤ e → passes d ≡ true → ⊥) → d ≡ suc e
least_exactly passes reach d e few is there none =
    ⊎_elim
    (λ less. absurd (⊎_elim (λ passed. none (omega (arith, less)) passed) (λ all. omega (arith, all, few, less)) is.ends))
    (λ most. ⊎_elim (λ past. absurd (false≢true (sym (is.first (suc e) (omega arith) past) ∙ there))) (λ least. omega (arith, most, least)) (cases_lt (suc e) d))
    (cases_lt d (suc e))

module _ (parts : ℕ) (orders : List Order) (reach : ℕ) (prices : List ℤ) (asset e : ℕ) (consistent : All IsConsistent orders) (within : asset < length prices) (few : e < reach) where
  -- an asset is still above e grains higher, and no longer a grain after that
  rise_exactly : is_above_in parts orders (risen prices asset e) asset ≡ true → is_above_in parts orders (risen prices asset (suc e)) asset ≡ false → rise_of parts orders reach prices asset ≡ suc e
  rise_exactly before after =
      least_exactly (λ d. not (is_above_in parts orders (risen prices asset d) asset)) reach (rise_of parts orders reach prices asset) e few
      (least_amount_is reach (λ d. not (is_above_in parts orders (risen prices asset d) asset)) (omega (arith, few))) (ap not after)
      (λ less passes.
      let d = rise_of parts orders reach prices asset in
      let p = price_of prices asset in
      let more = low_excess-falls parts orders prices asset (p +ℤ pos d) (p +ℤ pos e) consistent within (omega (arith, ints, less)) in
      let high = above_in_is parts orders (risen prices asset e) asset before in
      let low = not_above_in_is parts orders (risen prices asset d) asset (not_true (is_above_in parts orders (risen prices asset d) asset) passes) in
      omega (arith, ints, more, high, low))

  -- an asset is still below e grains lower, and no longer a grain after that
  fall_exactly : is_below_in parts orders (fallen prices asset e) asset ≡ true → is_below_in parts orders (fallen prices asset (suc e)) asset ≡ false → fall_of parts orders reach prices asset ≡ suc e
  fall_exactly before after =
      least_exactly (λ d. not (is_below_in parts orders (fallen prices asset d) asset)) reach (fall_of parts orders reach prices asset) e few
      (least_amount_is reach (λ d. not (is_below_in parts orders (fallen prices asset d) asset)) (omega (arith, few))) (ap not after)
      (λ less passes.
      let d = fall_of parts orders reach prices asset in
      let p = price_of prices asset in
      let more = high_excess-falls parts orders prices asset (p -ℤ pos e) (p -ℤ pos d) consistent within (omega (arith, ints, less)) in
      let low = below_in_is parts orders (fallen prices asset e) asset before in
      let high = not_below_in_is parts orders (fallen prices asset d) asset (not_true (is_below_in parts orders (fallen prices asset d) asset) passes) in
      omega (arith, ints, more, high, low))

  -- a move to such a place is that rise
  pub rises_to : is_above orders prices asset ≡ true → is_above_in parts orders (risen prices asset e) asset ≡ true → is_above_in parts orders (risen prices asset (suc e)) asset ≡ false
      → (moved parts orders reach prices asset ≡ risen prices asset (suc e)) × (amount_of parts orders reach prices asset ≡ suc e)
  unfolding moved amount_of
  rises_to above before after =
      let exactly = rise_exactly before after in
      let risen_now = above_one orders prices asset ∙ above in
      (rw risen_now (ap (risen prices asset) exactly), rw risen_now exactly)

  -- a move to such a place is that fall
  pub falls_to : is_above orders prices asset ≡ false → is_below orders prices asset ≡ true → is_below_in parts orders (fallen prices asset e) asset ≡ true → is_below_in parts orders (fallen prices asset (suc e)) asset ≡ false
      → (moved parts orders reach prices asset ≡ fallen prices asset (suc e)) × (amount_of parts orders reach prices asset ≡ suc e)
  unfolding moved amount_of
  falls_to level below before after =
      let exactly = fall_exactly before after in
      let not_above = above_one orders prices asset ∙ level in
      let fallen_now = below_one orders prices asset ∙ below in
      (rw (not_above, fallen_now) (ap (fallen prices asset) exactly), rw (not_above, fallen_now) exactly)
