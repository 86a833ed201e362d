-- The loop of a search.
use Rattle.std.proofs.Common.{◌≡◌, ℕ, zero, suc, ◌+◌, ◌-◌, ◌^◌, ◌<◌, ◌≤◌, ℤ, Bool, true, false, List, length, map, get_or, take, ◌++◌, ◌∷◌, [], refl, ap, sym, ◌∙◌, arith, ◌+ℤ◌, ⊎_elim}
use Rattle.std.proofs.lemmas.Bool.{cases_Bool}
use Rattle.std.proofs.lemmas.Int.{ints, clamps}
use Rattle.joint_prices.specs.Numbers.{within}
use Rattle.std.specs.Prelude.{All, ◌/◌}
use Rattle.std.proofs.lemmas.List.{length-map, take_more, map-append}
use Rattle.weight_rows.specs.Rows.{IsPrice, IsPricedBy}
use Rattle.flow_orders.specs.Orders.{Order}
use Rattle.joint_prices.specs.OrderStates.{IsShare, IsNear}
use Rattle.joint_prices.specs.Steps.{order_states, moves, priced, shared, reached, joint_prices}

-- after k steps
pub record IsSearching (settled : List ℤ → Bool) (os : List Order) (start : List ℤ) (k tau : ℕ) (prices : List ℤ) (ts : List ℕ) : Type 0 where
  pub value : joint_prices settled os start ≡ reached settled os start (100 - k) tau prices ts
  pub near : tau ≤ 2 ^ 60
  pub count : length prices ≡ length start
  pub shares : length ts ≡ length os
  pub range : All IsPrice prices
  pub each : All IsShare ts

half : Order → ℕ
half o = 2 ^ 31

half_is : IsShare (2 ^ 31)
half_is = (omega arith, omega arith)

pub half_each : (os : List Order) → All IsShare (map (λ o. 2 ^ 31) os)
half_each [] k d inside = absurd (omega (arith, inside))
half_each (o ∷ os) zero d inside = half_is
half_each (o ∷ os) (suc k) d inside = half_each os k d (omega (arith, inside))

pub none_searched : (settled : List ℤ → Bool) (os : List Order) (start prices : List ℤ) (ts : List ℕ) → prices ≡ start → ts ≡ map (λ o. 2 ^ 31) os → All IsPrice start → IsSearching settled os start 0 (2 ^ 60) prices ts
unfolding joint_prices half
none_searched settled os start prices ts prices_are shares_are range =
    rw (prices_are, shares_are) (record {
      value = refl;
      near = omega arith;
      count = refl;
      shares = length-map os half;
      range = range;
      each = half_each os;
    })

reached_more : (settled : List ℤ → Bool) (os : List Order) (start : List ℤ) (j tau : ℕ) (prices : List ℤ) (ts : List ℕ) → settled prices ≡ false
    → reached settled os start (suc j) tau prices ts ≡ reached settled os start j (tau / 3) (priced prices (moves start prices os (order_states tau prices os ts))) (shared (moves start prices os (order_states tau prices os ts)) os (order_states tau prices os ts))
unfolding reached
reached_more settled os start j tau prices ts not = rw not refl

pub one_searched : (settled : List ℤ → Bool) (os : List Order) (start : List ℤ) (k tau : ℕ) (prices next : List ℤ) (ts after : List ℕ) → k < 100 → settled prices ≡ false → IsSearching settled os start k tau prices ts
    → next ≡ priced prices (moves start prices os (order_states tau prices os ts)) → after ≡ shared (moves start prices os (order_states tau prices os ts)) os (order_states tau prices os ts)
    → length next ≡ length prices → length after ≡ length ts → All IsPrice next → All IsShare after → IsSearching settled os start (k + 1) (tau / 3) next after
one_searched settled os start k tau prices next ts after few not before next_is after_is count shares range each =
    let left : 100 - k ≡ suc (100 - (k + 1)) = omega (arith, few) in
    record {
      value = rw left at before.value ∙ reached_more settled os start (100 - (k + 1)) tau prices ts not
          ∙ ap (λ p. reached settled os start (100 - (k + 1)) (tau / 3) p (shared (moves start prices os (order_states tau prices os ts)) os (order_states tau prices os ts))) (sym next_is)
          ∙ ap (λ s. reached settled os start (100 - (k + 1)) (tau / 3) next s) (sym after_is);
      near = omega (arith, before.near);
      count = count ∙ before.count;
      shares = shares ∙ before.shares;
      range = range;
      each = each;
    }

reached_settled : (settled : List ℤ → Bool) (os : List Order) (start : List ℤ) (j tau : ℕ) (prices : List ℤ) (ts : List ℕ) → settled prices ≡ true → reached settled os start (suc j) tau prices ts ≡ prices
unfolding reached
reached_settled settled os start j tau prices ts yes_is = rw yes_is refl

pub end_settled : (settled : List ℤ → Bool) (os : List Order) (start : List ℤ) (k tau : ℕ) (prices : List ℤ) (ts : List ℕ) → k < 100 → settled prices ≡ true → IsSearching settled os start k tau prices ts → prices ≡ joint_prices settled os start
end_settled settled os start k tau prices ts few is before =
    let left : 100 - k ≡ suc (100 - (k + 1)) = omega (arith, few) in
    sym (rw left at before.value ∙ reached_settled settled os start (100 - (k + 1)) tau prices ts is)

reached_spent : (settled : List ℤ → Bool) (os : List Order) (start : List ℤ) (j tau : ℕ) (prices : List ℤ) (ts : List ℕ) → j ≡ 0 → reached settled os start j tau prices ts ≡ prices
unfolding reached
reached_spent settled os start j tau prices ts none = rw none refl

pub end_spent : (settled : List ℤ → Bool) (os : List Order) (start : List ℤ) (k tau : ℕ) (prices : List ℤ) (ts : List ℕ) → 100 ≤ k → IsSearching settled os start k tau prices ts → prices ≡ joint_prices settled os start
end_spent settled os start k tau prices ts past before =
    sym (before.value ∙ reached_spent settled os start (100 - k) tau prices ts (omega (arith, past)))

pub priced_alike : (os : List Order) (start prices : List ℤ) → length prices ≡ length start → All (λ o. IsPricedBy o.row start) os → All (λ o. IsPricedBy o.row prices) os
priced_alike os start prices same all k d inside j e within = omega (arith, same, all k d inside j e within)

pub mapped_one : {X Y : Type 0} (f : X → Y) (xs : List X) (i : ℕ) (d : X) (now next : List Y) (y : Y) → i < length xs → now ≡ map f (take i xs) → y ≡ f (get_or xs i d) → next ≡ now ++ y ∷ [] → next ≡ map f (take (i + 1) xs)
mapped_one f xs i d now next y within before y_is next_is =
    next_is ∙ ap (λ l. l ++ y ∷ []) before ∙ ap (λ z. map f (take i xs) ++ z ∷ []) y_is ∙ sym (map-append f (take i xs) (get_or xs i d ∷ [])) ∙ ap (map f) (sym (take_more xs i d within))

-- ---- prices stay near

within_near : (x : ℤ) → IsNear (within 61 x)
within_near x = omega (arith, ints, clamps)

near_priced : (prices by : List ℤ) → All IsNear (priced prices by)
near_priced [] by k d inside = absurd (omega (arith, inside))
near_priced (p ∷ prices) [] k d inside = absurd (omega (arith, inside))
near_priced (p ∷ prices) (e ∷ by) zero d inside = within_near (p +ℤ e)
near_priced (p ∷ prices) (e ∷ by) (suc k) d inside = near_priced prices by k d (omega (arith, inside))

near_reached : (settled : List ℤ → Bool) (os : List Order) (start : List ℤ) (j tau : ℕ) (prices : List ℤ) (ts : List ℕ) → All IsNear prices → All IsNear (reached settled os start j tau prices ts)
unfolding reached
near_reached settled os start zero tau prices ts near = near
near_reached settled os start (suc j) tau prices ts near =
    ⊎_elim
    (λ found. rw found near)
    (λ not. rw not (near_reached settled os start j (tau / 3) (priced prices (moves start prices os (order_states tau prices os ts))) (shared (moves start prices os (order_states tau prices os ts)) os (order_states tau prices os ts)) (near_priced prices (moves start prices os (order_states tau prices os ts)))))
    (cases_Bool (settled prices))

pub near_joint_prices : (settled : List ℤ → Bool) (os : List Order) (start : List ℤ) → All IsNear start → All IsNear (joint_prices settled os start)
unfolding joint_prices half
near_joint_prices settled os start near = near_reached settled os start 100 (2 ^ 60) start (map half os) near
