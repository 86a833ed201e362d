-- The loops that sum what orders ask for, in 64 bits.
use Rattle.std.proofs.Common.{◌≡◌, ℕ, ◌+◌, ◌*◌, ◌^◌, ◌<◌, ◌≤◌, ℤ, ◌+ℤ◌, List, length, take, get_or, to_z, of_z, w64, sym, ap, ◌∙◌, arith}
use Rattle.std.specs.Prelude.{unsigned_abs, FitsSigned}
use Rattle.std.proofs.lemmas.Int.{to_z-of_z, fits_signed_from_abs}
use Rattle.std.proofs.lemmas.Nat.{mul-le}
use Rattle.std.proofs.lemmas.List.{take_all}
use Rattle.list_sums.specs.Sums.{int_sum_by}
use Rattle.list_sums.proofs.Products.{unsigned_abs-add}
use Rattle.list_sums.proofs.SumLemmas.{int_sum_by_more}
use Rattle.flow_orders.specs.Orders.{most_orders}
use Rattle.flow_orders.proofs.Limits.{orders_fit}

module _ {X : Type 0} where
  -- the sum of the first i parts, each of which is at most `most`
  pub record IsSumBefore (most : ℕ) (f : X → ℤ) (xs : List X) (i : ℕ) (total : ℤ) : Type 0 where
    pub value : total ≡ int_sum_by f (take i xs)
    pub bound : unsigned_abs total ≤ i * most

  -- all parts
  pub all_summed : (most : ℕ) (f : X → ℤ) (xs : List X) (i : ℕ) (total : ℤ) → length xs ≤ i → IsSumBefore most f xs i total → total ≡ int_sum_by f xs
  all_summed most f xs i total past before = before.value ∙ ap (int_sum_by f) (take_all i xs past)

  -- one part more, as the code sums it in 64 bits
  pub one_more_summed : (most : ℕ) (f : X → ℤ) (xs : List X) (i : ℕ) (total part : ℤ) (d : X)
      → most ≤ 2 ^ 44 → length xs ≤ most_orders → i < length xs → IsSumBefore most f xs i total → part ≡ f (get_or xs i d) → unsigned_abs part ≤ most
      → IsSumBefore most f xs (i + 1) (to_z w64 (of_z w64 (total +ℤ to_z w64 (of_z w64 part))))
  one_more_summed most f xs i total part d little few within before is small =
      let bound : unsigned_abs (total +ℤ part) ≤ (i + 1) * most = omega (arith, unsigned_abs-add total part, small, before.bound) in
      let far : (i + 1) * most ≤ 2 ^ 14 * 2 ^ 44 = mul-le (i + 1) most (2 ^ 14) (2 ^ 44) (omega (arith, few, within, orders_fit)) little in
      let fits : FitsSigned w64 (total +ℤ part) = fits_signed_from_abs w64 _ (omega (arith, bound, far)) in
      let value : total +ℤ part ≡ int_sum_by f (take (i + 1) xs) = rw (is, before.value) (sym (int_sum_by_more f xs i d within)) in
      let same : to_z w64 (of_z w64 part) ≡ part = to_z-of_z w64 part (fits_signed_from_abs w64 _ (omega (arith, small, little))) in
      let sum : to_z w64 (of_z w64 (total +ℤ part)) ≡ total +ℤ part = to_z-of_z w64 (total +ℤ part) fits in
      rw (same, sum) (record { value = value; bound = bound })
