-- Whether an asset is settled, by its excess and its slope bound.
use Rattle.std.proofs.Common.{◌≡◌, ◌↔◌, ℕ, ℤ, pos, ◌≤ℤ◌, Bool, true, false, ◌||◌, IsTrue, List, refl, ap, ◌∙◌, arith}
use Rattle.std.specs.Prelude.{neg_ℤ, int_lt}
use Rattle.std.proofs.lemmas.Int.{ints}
use Rattle.flow_orders.specs.Orders.{Order}
use Rattle.flow_orders.specs.Excess.{steepness, is_unsettled}
use Rattle.flow_orders.specs.WholeUnits.{low_excess, high_excess, is_above, is_below}
use Rattle.flow_orders.proofs.Moving.{settled_is, is_settled}
use Rattle.flow_orders.proofs.WholeUnits.{unsettled_one}

-- a test of both bounds decides whether the asset is settled
pub settled_where : (orders : List Order) (prices : List ℤ) (asset : ℕ) (near : Bool) (low high steep : ℤ)
    → low ≡ low_excess orders prices asset → high ≡ high_excess orders prices asset → steep ≡ pos (steepness orders asset)
    → IsTrue near ↔ ((low ≤ℤ steep) × (neg_ℤ steep ≤ℤ high)) → IsTrue near ↔ (is_unsettled orders prices asset ≡ false)
settled_where orders prices asset near low high steep low_is high_is steep_is tells =
    let both = rw (low_is, high_is, steep_is) at tells in (
      λ holds. let parts = both.0 holds in is_settled orders prices asset (record { low = parts.0; high = parts.1 }),
      λ settled. let parts = settled_is orders prices asset settled in both.1 (parts.low, parts.high),
    )

-- ---- which way the price of an asset moves

module _ (orders : List Order) (prices : List ℤ) (asset : ℕ) (low high steep : ℤ) (low_is : low ≡ low_excess orders prices asset) (high_is : high ≡ high_excess orders prices asset) (steep_is : steep ≡ pos (steepness orders asset)) where
  pub rises : int_lt steep low ≡ true → is_above orders prices asset ≡ true
  rises e = rw (low_is, steep_is) at e

  pub falls : int_lt high (neg_ℤ steep) ≡ true → is_below orders prices asset ≡ true
  falls e = rw (high_is, steep_is) at e

  pub settles : int_lt steep low ≡ false → int_lt high (neg_ℤ steep) ≡ false → is_unsettled orders prices asset ≡ false
  settles not_above not_below =
      is_settled orders prices asset (record { low = omega (arith, ints, rw (low_is, steep_is) at not_above); high = omega (arith, ints, rw (high_is, steep_is) at not_below) })

-- an asset whose price rises or falls isn't settled
pub above_unsettled : (orders : List Order) (prices : List ℤ) (asset : ℕ) → is_above orders prices asset ≡ true → is_unsettled orders prices asset ≡ true
above_unsettled orders prices asset above = unsettled_one orders prices asset ∙ ap (λ c. c || is_below orders prices asset) above

pub below_unsettled : (orders : List Order) (prices : List ℤ) (asset : ℕ) → is_below orders prices asset ≡ true → is_unsettled orders prices asset ≡ true
below_unsettled orders prices asset below = unsettled_one orders prices asset ∙ second (is_above orders prices asset) (is_below orders prices asset) below
  where
    second : (a b : Bool) → b ≡ true → (a || b) ≡ true
    second true b e = refl
    second false b e = e
