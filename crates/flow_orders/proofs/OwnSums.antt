-- Sums over the members of a list, owner by owner.
use Rattle.std.proofs.Common.{◌≡◌, ℕ, ◌+◌, ◌≤◌, ◌<◌, cond, eqb, ℤ, pos, ◌+ℤ◌, List, ◌++◌, sym, ◌∙◌}
use Rattle.std.specs.Prelude.{All, slice_index_or}
use Rattle.std.specs.List.{range_with_len}
use Rattle.list_sums.specs.Sums.{int_sum_by}
use Rattle.list_sums.proofs.SumLemmas.{int_sum_by-only, int_sum_by-append, int_sum_by-same_all, int_sum_by-swap}
use Rattle.flow_orders.specs.Orders.{own_sum}

module _ {X : Type 0} (whose : X → ℕ) (f : X → ℤ) where
  -- the sum over all accounts of their own members is the sum over the list, if each member's account is among them
  pub own_sums_are_all : (a n : ℕ) (xs : List X) → All (λ x. (a ≤ whose x) × (whose x < a + n)) xs → int_sum_by (λ account. own_sum whose account f xs) (range_with_len a n) ≡ int_sum_by f xs
  own_sums_are_all a n xs there =
      sym (int_sum_by-swap (λ x account. cond (eqb (whose x) account) (f x) (pos 0)) xs (range_with_len a n))
      ∙ int_sum_by-same_all (λ x. int_sum_by (λ account. cond (eqb (whose x) account) (f x) (pos 0)) (range_with_len a n)) f xs
      (λ i d inside. int_sum_by-only (λ account. f (slice_index_or xs i d)) a n (whose (slice_index_or xs i d)) (there i d inside).0 (there i d inside).1)

  -- an account's own sum over a list of two parts
  pub own_sum-append : (account : ℕ) (xs ys : List X) → own_sum whose account f (xs ++ ys) ≡ own_sum whose account f xs +ℤ own_sum whose account f ys
  own_sum-append account xs ys = int_sum_by-append (λ x. cond (eqb (whose x) account) (f x) (pos 0)) xs ys
