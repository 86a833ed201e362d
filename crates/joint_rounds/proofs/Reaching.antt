-- The loop of a search.
use Rattle.std.proofs.Common.{◌≡◌, ℕ, zero, suc, ◌+◌, ◌-◌, ◌*◌, ◌^◌, ◌<◌, ◌≤◌, ℤ, Bool, true, false, List, length, map, ◌∷◌, [], refl, ap, sym, ◌∙◌, arith, ◌+ℤ◌, ⊎_elim}
use Rattle.std.proofs.lemmas.Bool.{cases_Bool}
use Rattle.std.proofs.lemmas.Int.{ints, clamps}
use Rattle.std.specs.Prelude.{All}
use Rattle.std.proofs.lemmas.List.{length-map}
use Rattle.weight_rows.specs.Rows.{IsPrice}
use Rattle.flow_orders.specs.Orders.{Order}
use Rattle.joint_prices.specs.Numbers.{within}
use Rattle.joint_prices.specs.OrderStates.{IsShare, IsNear}
use Rattle.joint_prices.proofs.Reaching.{half_each}
use Rattle.joint_rounds.specs.OrderStates.{OrderState, grains}
use Rattle.joint_rounds.specs.Steps.{order_states, moves, priced, shared, reached, joint_prices_by}

within_near : (x : ℤ) → IsNear (within 61 x)
within_near x = omega (arith, ints, clamps)

module _ (even : List ℤ → Bool) (parts : List ℤ → List ℕ) (direct : Bool) (fall : ℕ) (os : List Order) where
  -- after k steps, in which the barrier's parameter was halved s times
  pub record IsSearching (start : List ℤ) (k s : ℕ) (prices : List ℤ) (ts : List ℕ) : Type 0 where
    pub value : joint_prices_by even parts direct fall os start ≡ reached even parts direct fall os (100 - k) s prices ts
    pub few : s ≤ k * 8
    pub count : length prices ≡ length start
    pub shares : length ts ≡ length os
    pub range : All IsPrice prices
    pub each : All IsShare ts

  half : Order → ℕ
  half o = 2 ^ 31

  pub none_searched : (start prices : List ℤ) (ts : List ℕ) → prices ≡ start → ts ≡ map (λ o. 2 ^ 31) os → All IsPrice start → IsSearching start 0 0 prices ts
  unfolding joint_prices_by half
  none_searched start prices ts prices_are shares_are range =
      rw (prices_are, shares_are) (record {
        value = refl;
        few = omega arith;
        count = refl;
        shares = length-map os half;
        range = range;
        each = half_each os;
      })

  reached_more : (j s : ℕ) (prices : List ℤ) (ts : List ℕ) → even prices ≡ false
      → reached even parts direct fall os (suc j) s prices ts ≡ reached even parts direct fall os j (s + fall) (priced s prices (moves direct parts prices os (order_states s prices os ts))) (shared (moves direct parts prices os (order_states s prices os ts)) os (order_states s prices os ts))
  unfolding reached
  reached_more j s prices ts not = rw not refl

  pub one_searched : (start : List ℤ) (k s : ℕ) (prices next : List ℤ) (ts after : List ℕ) (by : List ℤ) → fall ≤ 8 → k < 100 → even prices ≡ false → IsSearching start k s prices ts
      → by ≡ moves direct parts prices os (order_states s prices os ts)
      → next ≡ priced s prices by → after ≡ shared by os (order_states s prices os ts)
      → length next ≡ length prices → length after ≡ length ts → All IsPrice next → All IsShare after → IsSearching start (k + 1) (s + fall) next after
  one_searched start k s prices next ts after by slow few not before by_is next_is after_is count shares range each =
      let left : 100 - k ≡ suc (100 - (k + 1)) = omega (arith, few) in
      let next_are = rw by_is at next_is in
      let after_are = rw by_is at after_is in
      record {
        value = rw left at before.value ∙ reached_more (100 - (k + 1)) s prices ts not
            ∙ ap (λ p. reached even parts direct fall os (100 - (k + 1)) (s + fall) p (shared (moves direct parts prices os (order_states s prices os ts)) os (order_states s prices os ts))) (sym next_are)
            ∙ ap (λ t. reached even parts direct fall os (100 - (k + 1)) (s + fall) next t) (sym after_are);
        few = omega (arith, before.few, slow);
        count = count ∙ before.count;
        shares = shares ∙ before.shares;
        range = range;
        each = each;
      }

  reached_even : (j s : ℕ) (prices : List ℤ) (ts : List ℕ) → even prices ≡ true → reached even parts direct fall os (suc j) s prices ts ≡ prices
  unfolding reached
  reached_even j s prices ts is = rw is refl

  pub end_even : (start : List ℤ) (k s : ℕ) (prices : List ℤ) (ts : List ℕ) → k < 100 → even prices ≡ true → IsSearching start k s prices ts → prices ≡ joint_prices_by even parts direct fall os start
  end_even start k s prices ts few is before =
      let left : 100 - k ≡ suc (100 - (k + 1)) = omega (arith, few) in
      sym (rw left at before.value ∙ reached_even (100 - (k + 1)) s prices ts is)

  reached_spent : (j s : ℕ) (prices : List ℤ) (ts : List ℕ) → j ≡ 0 → reached even parts direct fall os j s prices ts ≡ prices
  unfolding reached
  reached_spent j s prices ts none = rw none refl

  pub end_spent : (start : List ℤ) (k s : ℕ) (prices : List ℤ) (ts : List ℕ) → 100 ≤ k → IsSearching start k s prices ts → prices ≡ joint_prices_by even parts direct fall os start
  end_spent start k s prices ts past before =
      sym (before.value ∙ reached_spent (100 - k) s prices ts (omega (arith, past)))

  -- ---- prices stay near

  near_priced : (s : ℕ) (prices by : List ℤ) → All IsNear (priced s prices by)
  near_priced s [] by k d inside = absurd (omega (arith, inside))
  near_priced s (p ∷ prices) [] k d inside = absurd (omega (arith, inside))
  near_priced s (p ∷ prices) (e ∷ by) zero d inside = within_near (p +ℤ grains s e)
  near_priced s (p ∷ prices) (e ∷ by) (suc k) d inside = near_priced s prices by k d (omega (arith, inside))

  near_reached : (j s : ℕ) (prices : List ℤ) (ts : List ℕ) → All IsNear prices → All IsNear (reached even parts direct fall os j s prices ts)
  unfolding reached
  near_reached zero s prices ts near = near
  near_reached (suc j) s prices ts near =
      let by = moves direct parts prices os (order_states s prices os ts) in
      ⊎_elim
      (λ found. rw found near)
      (λ not. rw not (near_reached j (s + fall) (priced s prices by) (shared by os (order_states s prices os ts)) (near_priced s prices by)))
      (cases_Bool (even prices))

  pub near_joint_prices : (start : List ℤ) → All IsNear start → All IsNear (joint_prices_by even parts direct fall os start)
  unfolding joint_prices_by half
  near_joint_prices start near = near_reached 100 0 start (map half os) near

-- moves depend on the parts at these prices alone
pub moves_alike : (direct : Bool) (f g : List ℤ → List ℕ) (prices : List ℤ) (os : List Order) (zs : List OrderState) → f prices ≡ g prices → moves direct f prices os zs ≡ moves direct g prices os zs
moves_alike direct f g prices os zs same = rw same refl
