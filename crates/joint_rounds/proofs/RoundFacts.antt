-- Facts on rounds, and on the sums that they begin with.
use Rattle.std.proofs.Common.{◌≡◌, ℕ, suc, ◌+◌, ◌-◌, ◌^◌, ◌<◌, ◌≤◌, ℤ, pos, ◌+ℤ◌, ◌-ℤ◌, List, [], ◌∷◌, length, map, set, true, false, refl, ap, ◌∙◌, ⊎_elim, arith}
use Rattle.std.specs.Prelude.{All, unsigned_abs, neg_ℤ}
use Rattle.std.specs.List.{range_with_len}
use Rattle.std.proofs.lemmas.Int.{ints}
use Rattle.std.proofs.lemmas.Bool.{cases_lt}
use Rattle.std.proofs.lemmas.List.{length-set, get_or-set_same, get_or-set_other}
use Rattle.weight_rows.specs.Rows.{price_of, IsPricedBy}
use Rattle.flow_orders.specs.Orders.{Order}
use Rattle.flow_orders.specs.Residuals.{HasEach}
use Rattle.joint_prices.specs.Numbers.{Num, zero_num, scaled, cut, minus, over, whole}
use Rattle.std.proofs.Math.Nat.{div-le_of_le-mul}
use Rattle.joint_prices.proofs.NumberFacts.{quot_size}
use Rattle.joint_prices.proofs.Filling.{map_range_same}
use Rattle.joint_prices.specs.Solving.{reduced}
use Rattle.joint_prices.specs.Steps.{zip_with}
use Rattle.joint_prices.specs.Sums.{AreSmall}
use Rattle.joint_rounds.specs.OrderStates.{OrderState}
use Rattle.joint_rounds.specs.Rounds.{aim_part, size_part, flow_part, sum_with, excess, size, top, flat, flow, flows, stride, left_after, turned, is_little, rounds, by_rounds}
use Rattle.joint_rounds.specs.Sums.{AreGathered, IsFlat}

-- a list of n sums, whose first a are as f gives them
pub record IsBegun (f : ℕ → ℤ) (n a : ℕ) (now : List ℤ) : Type 0 where
  pub count : length now ≡ n
  pub each : (b : ℕ) → b < a → price_of now b ≡ f b

pub none_begun : (f : ℕ → ℤ) (n : ℕ) (now : List ℤ) → length now ≡ n → IsBegun f n 0 now
none_begun f n now count = record { count = count; each = λ b inside. absurd (omega (arith, inside)) }

pub one_begun : (f : ℕ → ℤ) (n a : ℕ) (now : List ℤ) (y : ℤ) → a < length now → y ≡ f a → IsBegun f n a now → IsBegun f n (a + 1) (set now a y)
one_begun f n a now y within is before = record {
  count = length-set now a y ∙ before.count;
  each = λ b inside.
      ⊎_elim
      (λ (low : b < a). get_or-set_other now a b y (pos 0) (λ same. omega (arith, low, same)) ∙ before.each b low)
      (λ (high : a ≤ b).
      let here : b ≡ a = omega (arith, inside, high) in
      rw here (get_or-set_same now a y (pos 0) within ∙ is))
      (cases_lt b a);
}

pub all_begun : (f : ℕ → ℤ) (n a : ℕ) (now : List ℤ) → n ≤ a → IsBegun f n a now → HasEach n f now
all_begun f n a now past all = record { count = all.count; each = λ b inside. all.each b (omega (arith, inside, past)) }

-- what is begun with the same small number is small
pub begun_small : (z : ℤ) (n : ℕ) (now : List ℤ) → unsigned_abs z ≤ 2 ^ 20 → HasEach n (λ a. z) now → AreSmall (2 ^ 20) now
begun_small z n now small is a inside = rw (is.each a (omega (arith, inside, is.count))) small

pub flat_flow_small : (c : ℤ) → IsFlat c → unsigned_abs (scaled c (pos 28)) ≤ 2 ^ 20
unfolding scaled
flat_flow_small c is = rw (quot_size c (2 ^ 28)) (div-le_of_le-mul (2 ^ 28) (omega (arith, is)))

pub flows_begun_small : (cs now : List ℤ) → All IsFlat cs → HasEach (length cs) (λ a. scaled (price_of cs a) (pos 28)) now → AreSmall (2 ^ 20) now
flows_begun_small cs now flat is a inside =
    let there : a < length cs = omega (arith, inside, is.count) in
    rw (is.each a there) (flat_flow_small (price_of cs a) (flat a (pos 0) there))

-- assets have places in lists of the same length
pub placed_alike : (os : List Order) (xs ys : List ℤ) → length ys ≡ length xs → All (λ o. IsPricedBy o.row xs) os → All (λ o. IsPricedBy o.row ys) os
placed_alike os xs ys same all k d inside j e within = omega (arith, same, all k d inside j e within)

pub excesses_are : (os : List Order) (zs : List OrderState) (before sums : List ℤ) (n m : ℕ) (now : List Num) → HasEach n (λ a. pos 0) before → AreGathered aim_part os zs before sums → m ≡ n
    → now ≡ map (λ a. cut (price_of sums a) (neg_ℤ (pos 32))) (range_with_len 0 m) → now ≡ map (excess os zs) (range_with_len 0 n)
unfolding excess
excesses_are os zs before sums n m now begun gathered same is =
    is ∙ ap (λ k. map (λ a. cut (price_of sums a) (neg_ℤ (pos 32))) (range_with_len 0 k)) same
    ∙ map_range_same (λ a. cut (price_of sums a) (neg_ℤ (pos 32))) (λ a. cut (sum_with (aim_part a) os zs) (neg_ℤ (pos 32))) 0 n
    (λ a low high.
    let inside : a < n = omega (arith, high) in
    let sum : price_of sums a ≡ sum_with (aim_part a) os zs = omega (arith, ints, gathered.each a (omega (arith, inside, begun.count)), begun.each a inside) in
    ap (λ x. cut x (neg_ℤ (pos 32))) sum)

pub sizes_are : (os : List Order) (zs : List OrderState) (before sums : List ℤ) (n m : ℕ) (now : List Num) → HasEach n (λ a. pos 1) before → AreGathered size_part os zs before sums → m ≡ n
    → now ≡ map (λ a. cut (price_of sums a) (neg_ℤ (pos 70))) (range_with_len 0 m) → now ≡ map (size os zs) (range_with_len 0 n)
unfolding size
sizes_are os zs before sums n m now begun gathered same is =
    is ∙ ap (λ k. map (λ a. cut (price_of sums a) (neg_ℤ (pos 70))) (range_with_len 0 k)) same
    ∙ map_range_same (λ a. cut (price_of sums a) (neg_ℤ (pos 70))) (λ a. cut (pos 1 +ℤ sum_with (size_part a) os zs) (neg_ℤ (pos 70))) 0 n
    (λ a low high.
    let inside : a < n = omega (arith, high) in
    let sum : price_of sums a ≡ pos 1 +ℤ sum_with (size_part a) os zs = omega (arith, ints, gathered.each a (omega (arith, inside, begun.count)), begun.each a inside) in
    ap (λ x. cut x (neg_ℤ (pos 70))) sum)

pub flows_are : (os : List Order) (zs : List OrderState) (ds : List Num) (cs before sums : List ℤ) (m : ℕ) (t : ℤ) (now : List Num) → cs ≡ flat ds → t ≡ top ds -ℤ pos 26
    → HasEach (length cs) (λ a. scaled (price_of cs a) (pos 28)) before → AreGathered (flow_part cs) os zs before sums → m ≡ length ds → length cs ≡ length ds
    → now ≡ map (λ a. cut (price_of sums a) t) (range_with_len 0 m) → now ≡ flows os zs ds
unfolding flows flow
flows_are os zs ds cs before sums m t now cs_are t_is begun gathered same count is =
    is ∙ ap (λ k. map (λ a. cut (price_of sums a) t) (range_with_len 0 k)) same
    ∙ map_range_same (λ a. cut (price_of sums a) t) (λ a. cut (scaled (price_of (flat ds) a) (pos 28) +ℤ sum_with (flow_part (flat ds) a) os zs) (top ds -ℤ pos 26)) 0 (length ds)
    (λ a low high.
    let inside : a < length cs = omega (arith, high, count) in
    let sum : price_of sums a ≡ scaled (price_of cs a) (pos 28) +ℤ sum_with (flow_part cs a) os zs = omega (arith, ints, gathered.each a (omega (arith, inside, begun.count)), begun.each a inside) in
    ap (λ x. cut x t) (sum ∙ ap (λ l. scaled (price_of l a) (pos 28) +ℤ sum_with (flow_part l a) os zs) cs_are) ∙ ap (cut (scaled (price_of (flat ds) a) (pos 28) +ℤ sum_with (flow_part (flat ds) a) os zs)) t_is)

-- ---- the loop of rounds

pub rounds_more : (j : ℕ) (os : List Order) (zs : List OrderState) (hs : List ℕ) (m x d r x2 d2 r2 : List Num) → is_little r hs ≡ false
    → x2 ≡ reduced (minus zero_num (stride os zs d r)) d x → r2 ≡ left_after os zs d r → d2 ≡ turned os zs d (zip_with over r2 m)
    → rounds (suc j) os zs hs m x d r ≡ rounds j os zs hs m x2 d2 r2
unfolding rounds
rounds_more j os zs hs m x d r x2 d2 r2 not x_is r_is d_is = rw (d_is, r_is, x_is, not) refl

pub rounds_little : (j : ℕ) (os : List Order) (zs : List OrderState) (hs : List ℕ) (m x d r : List Num) → is_little r hs ≡ true → rounds (suc j) os zs hs m x d r ≡ x
unfolding rounds
rounds_little j os zs hs m x d r little = rw little refl

pub rounds_spent : (j : ℕ) (os : List Order) (zs : List OrderState) (hs : List ℕ) (m x d r : List Num) → j ≡ 0 → rounds j os zs hs m x d r ≡ x
unfolding rounds
rounds_spent j os zs hs m x d r none = rw none refl

-- ---- all of it

-- zeros are alike in lists of the same length
pub zeros_alike : (xs ys : List Num) → length xs ≡ length ys → map (λ a. zero_num) xs ≡ map (λ a. zero_num) ys
zeros_alike [] [] same = refl
zeros_alike [] (y ∷ ys) same = absurd (omega (arith, same))
zeros_alike (x ∷ xs) [] same = absurd (omega (arith, same))
zeros_alike (x ∷ xs) (y ∷ ys) same = ap (λ l. zero_num ∷ l) (zeros_alike xs ys (omega (arith, same)))

pub by_rounds_is : (n : ℕ) (hs : List ℕ) (os : List Order) (zs : List OrderState) (r m x found : List Num) (by : List ℤ) → r ≡ map (excess os zs) (range_with_len 0 n) → m ≡ map (size os zs) (range_with_len 0 n)
    → x ≡ map (λ a. zero_num) r → found ≡ rounds 100 os zs hs m x (zip_with over r m) r → by ≡ map whole found → by ≡ by_rounds n hs os zs
unfolding by_rounds
by_rounds_is n hs os zs r m x found by r_is m_is x_is found_is by_is = rw (by_is, found_is, x_is, m_is, r_is) refl
