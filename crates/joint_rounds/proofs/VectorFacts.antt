-- Facts on vectors of floating point numbers.
use Rattle.std.proofs.Common.{◌≡◌, ℕ, ◌+◌, ◌^◌, ◌<◌, ◌≤◌, ℤ, pos, ◌+ℤ◌, ◌-ℤ◌, ◌≤ℤ◌, List, [], ◌∷◌, length, map, drop, get_or, refl, sym, ap, ◌∙◌, arith}
use Rattle.std.specs.Prelude.{unsigned_abs, neg_ℤ}
use Rattle.std.specs.Int.{int_min, int_max}
use Rattle.std.proofs.Math.Nat.{div-le_of_le-mul, pow-le-pow_right}
use Rattle.std.proofs.lemmas.Int.{ints, clamps}
use Rattle.std.proofs.lemmas.List.{drop_more, drop_all}
use Rattle.std.specs.List.{range_with_len}
use Rattle.weight_rows.specs.Rows.{price_of}
use Rattle.joint_prices.specs.Numbers.{Num, zero_num, scaled, within, minus, whole, cut}
use Rattle.joint_prices.proofs.NumberFacts.{quot_size}
use Rattle.joint_prices.specs.Solving.{less}
use Rattle.joint_rounds.specs.Rounds.{top, dot, parts}

pub dot_begins : (xs ys : List Num) → dot xs ys ≡ less zero_num (map (minus zero_num) xs) ys
unfolding dot
dot_begins xs ys = refl

-- ---- exponents

top_least : (ds : List Num) → neg_ℤ (pos (2 ^ 20)) ≤ℤ top ds
top_least [] = omega (arith, ints)
top_least (d ∷ ds) = omega (arith, ints, clamps, top_least ds)

pub top_begins : (ds : List Num) → top ds ≡ int_max (neg_ℤ (pos (2 ^ 20))) (top ds)
top_begins ds = omega (arith, ints, clamps, top_least ds)

pub top_more : (ds : List Num) (a : ℕ) (t : ℤ) (d : Num) → a < length ds → d ≡ get_or ds a d → int_max t (top (drop a ds)) ≡ int_max (int_max t d.e) (top (drop (a + 1) ds))
top_more ds a t d within is =
    let split : drop a ds ≡ d ∷ drop (a + 1) ds = drop_more ds a d within ∙ ap (λ x. x ∷ drop (a + 1) ds) (sym is) in
    rw split (omega (arith, ints, clamps))

pub top_ends : (ds : List Num) (a : ℕ) (t : ℤ) → length ds ≤ a → neg_ℤ (pos (2 ^ 20)) ≤ℤ t → int_max t (top (drop a ds)) ≡ t
top_ends ds a t past least = rw (drop_all a ds past) (omega (arith, ints, clamps, least))

-- ---- a flat direction

pub flat_small : (d : Num) (t k : ℤ) → d.e ≤ℤ t → unsigned_abs d.m < 2 ^ 62 → k ≡ int_min (t +ℤ pos 16 -ℤ d.e) (pos 126) → unsigned_abs (scaled d.m k) ≤ 2 ^ 46
unfolding scaled
flat_small d t k above small is =
    let n = unsigned_abs k in
    let far : 16 ≤ n = omega (arith, ints, clamps, above, is) in
    let n_is : k ≡ pos n = omega (arith, ints, clamps, above, is) in
    let power = pow-le-pow_right {n = 2} (omega arith) far in
    rw (n_is, quot_size d.m (2 ^ n)) (div-le_of_le-mul (2 ^ n) (omega (arith, small, power)))

-- ---- parts

pub parts_is : (x : Num) (k z r : ℤ) → k ≡ int_max (neg_ℤ (pos 62)) (int_min (neg_ℤ (x.e +ℤ pos 8)) (pos 62)) → z ≡ scaled x.m k → r ≡ within 62 z → r ≡ parts x
unfolding parts whole
parts_is x k z r k_is z_is r_is = rw (r_is, z_is, k_is) refl

-- ---- sums as numbers

pub cut_at : List ℤ → ℤ → ℕ → Num
cut_at sums e a = cut (price_of sums a) e

pub cut_is : (sums : List ℤ) (e : ℤ) (a : ℕ) → cut (price_of sums a) e ≡ cut_at sums e a
unfolding cut_at
cut_is sums e a = refl

pub all_cut : (sums : List ℤ) (e : ℤ) (n : ℕ) (now : List Num) → now ≡ map (cut_at sums e) (range_with_len 0 n) → now ≡ map (λ a. cut (price_of sums a) e) (range_with_len 0 n)
unfolding cut_at
all_cut sums e n now is = is
