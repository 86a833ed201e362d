-- Sums over the orders, added up one order after the other.
use Rattle.std.proofs.Common.{◌≡◌, ℕ, ◌+◌, ◌*◌, ◌^◌, ◌≤◌, ◌<◌, ℤ, pos, ◌+ℤ◌, List, length, drop, get_or, refl, ◌∙◌, arith}
use Rattle.std.specs.Prelude.{unsigned_abs}
use Rattle.std.proofs.Math.Nat.{mul-le-mul, mul-le-mul_right}
use Rattle.std.proofs.lemmas.Int.{ints}
use Rattle.std.proofs.lemmas.List.{drop_more, drop_all}
use Rattle.list_sums.proofs.Products.{unsigned_abs-add}
use Rattle.weight_rows.specs.Rows.{weight_in, price_of}
use Rattle.weight_rows.proofs.RowLawProofs.{weights_are_small}
use Rattle.flow_orders.specs.Orders.{Order, IsOrder}
use Rattle.joint_prices.specs.Sums.{AreSmall}
use Rattle.joint_rounds.specs.OrderStates.{OrderState}
use Rattle.joint_rounds.specs.Rounds.{sum_with}
use Rattle.joint_rounds.specs.Sums.{IsAdded, AreGathered}
use Rattle.joint_rounds.proofs.RowAdding.{IsLightBy}

-- what the orders before a place add was added, each at most so much
pub record IsGathering (most : ℕ) (f : ℕ → Order → OrderState → ℤ) (os : List Order) (zs : List OrderState) (old : List ℤ) (i : ℕ) (now : List ℤ) : Type 0 where
  pub count : length now ≡ length old
  pub each : (a : ℕ) → a < length old → price_of now a +ℤ sum_with (f a) (drop i os) (drop i zs) ≡ price_of old a +ℤ sum_with (f a) os zs
  pub small : (a : ℕ) → a < length old → unsigned_abs (price_of now a) ≤ 2 ^ 20 + i * most

pub none_gathered : (most : ℕ) (f : ℕ → Order → OrderState → ℤ) (os : List Order) (zs : List OrderState) (old : List ℤ) → AreSmall (2 ^ 20) old → IsGathering most f os zs old 0 old
none_gathered most f os zs old small = record {
  count = refl;
  each = λ a inside. refl;
  small = λ a inside. omega (arith, small a inside);
}

pub sum_more : (f : Order → OrderState → ℤ) (os : List Order) (zs : List OrderState) (i : ℕ) (o : Order) (z : OrderState) → i < length os → i < length zs → o ≡ get_or os i o → z ≡ get_or zs i z
    → sum_with f (drop i os) (drop i zs) ≡ f o z +ℤ sum_with f (drop (i + 1) os) (drop (i + 1) zs)
sum_more f os zs i o z inside there o_is z_is =
    rw (drop_more os i o inside, drop_more zs i z there, ← o_is, ← z_is) refl

pub sum_none : (f : Order → OrderState → ℤ) (os : List Order) (zs : List OrderState) (i : ℕ) → length os ≤ i → sum_with f (drop i os) (drop i zs) ≡ pos 0
sum_none f os zs i past = rw (drop_all i os past) refl

pub one_gathered : (most : ℕ) (f : ℕ → Order → OrderState → ℤ) (g : ℤ → ℤ) (os : List Order) (zs : List OrderState) (old : List ℤ) (i : ℕ) (now next : List ℤ) (o : Order) (z : OrderState)
    → i < length os → length zs ≡ length os → o ≡ get_or os i o → z ≡ get_or zs i z → IsOrder o → ((a : ℕ) → f a o z ≡ g (weight_in o.row a)) → IsLightBy most g
    → IsGathering most f os zs old i now → IsAdded g o.row now next → IsGathering most f os zs old (i + 1) next
one_gathered most f g os zs old i now next o z within counts o_is z_is order part_is light held added =
    let there : i < length zs = omega (arith, within, counts) in
    record {
      count = added.count ∙ held.count;
      each = λ a inside.
          let here = added.each a (omega (arith, inside, held.count)) in
          omega (arith, ints, here, part_is a, held.each a inside, sum_more (f a) os zs i o z within there o_is z_is);
      small = λ a inside.
          let here = added.each a (omega (arith, inside, held.count)) in
          let part = light (weight_in o.row a) (weights_are_small o.row a order.row) in
          rw here (omega (arith, unsigned_abs-add (price_of now a) (g (weight_in o.row a)), part, held.small a inside));
    }

pub all_gathered : (most : ℕ) (f : ℕ → Order → OrderState → ℤ) (os : List Order) (zs : List OrderState) (old : List ℤ) (i : ℕ) (now : List ℤ) → length os ≤ i → IsGathering most f os zs old i now → AreGathered f os zs old now
all_gathered most f os zs old i now past all = record {
  count = all.count;
  each = λ a inside. omega (arith, ints, all.each a inside, sum_none (f a) os zs i past);
}

pub gathered_small : (most : ℕ) (f : ℕ → Order → OrderState → ℤ) (os : List Order) (zs : List OrderState) (old : List ℤ) (i : ℕ) (now : List ℤ) → i ≤ 2 ^ 17 → IsGathering most f os zs old i now → AreSmall (2 ^ 17 * most + 2 ^ 20) now
gathered_small most f os zs old i now few all a inside = omega (arith, all.small a (omega (arith, inside, all.count)), mul-le-mul_right most few)

-- on the way each sum is small enough for one order more
pub gathering_small : (most : ℕ) (f : ℕ → Order → OrderState → ℤ) (os : List Order) (zs : List OrderState) (old : List ℤ) (i : ℕ) (now : List ℤ) → most ≤ 2 ^ 108 → i ≤ 2 ^ 17 → IsGathering most f os zs old i now → AreSmall (2 ^ 126) now
gathering_small most f os zs old i now light few all a inside = omega (arith, all.small a (omega (arith, inside, all.count)), mul-le-mul few light)
