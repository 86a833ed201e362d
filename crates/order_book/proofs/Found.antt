-- What a binary search by number finds among ascending orders.
use Rattle.std.proofs.Common.{◌≡◌, ◌≢◌, ℕ, ◌<◌, ◌≤◌, List, length, get_or, Option, Result, Ok, Err, sym, ap, ⊎_elim, arith}
use Rattle.std.specs.Prelude.{All, MatchResult, MatchOption}
use Rattle.std.specs.Result.{result_ok}
use Rattle.std.specs.List.Sorted.{IsSearchInRange, IsBinarySearchResult, IsNonDecreasingBy}
use Rattle.std.specs.Ordering.{nat_cmp, ordering_index}
use Rattle.std.proofs.lemmas.Bool.{cases_lt}
use Rattle.std.proofs.lemmas.Bool.Decides.{nat_tests}
use Rattle.std.proofs.lemmas.Cmp.{ranked}
use Rattle.flow_orders.specs.Orders.{Order}
use Rattle.order_book.specs.Book.{IsPlaceOf}
use Rattle.order_book.specs.Gaps.{AreSlots}

module _ (orders : List Order) (live : AreSlots orders) (number : ℕ) where
  numbers_rise : (i j : ℕ) (d : Order) → i ≤ j → j < length orders → (get_or orders i d).number ≤ (get_or orders j d).number
  numbers_rise i j d le inside =
      ⊎_elim
      (λ before. let less : (get_or orders i d).number < (get_or orders j d).number = live.ascending i j d before inside in omega (arith, less))
      (λ same. let is : i ≡ j = omega (arith, le, same) in omega (arith, ap (λ k. (get_or orders k d).number) is))
      (cases_lt i j)

  comparisons_rise : IsNonDecreasingBy (λ o. ordering_index (nat_cmp o.number number)) orders
  comparisons_rise i j d le inside = higher (get_or orders i d).number (get_or orders j d).number (numbers_rise i j d le inside)
    where
      higher : (a b : ℕ) → a ≤ b → ordering_index (nat_cmp a number) ≤ ordering_index (nat_cmp b number)
      higher a b le = grind (arith, nat_tests)

  pub searched : (r : Result ℕ ℕ) → IsSearchInRange r (length orders) → IsBinarySearchResult (λ o. nat_cmp o.number number) orders r
      → MatchResult r (IsPlaceOf orders number) (λ _. All (λ o. o.number ≢ number) orders)
  searched (Ok place) inside equal = record { within = inside; found = λ d. ranked (get_or orders place d).number number _ (sym (equal d)) }
  searched (Err place) inside parted = λ k d within same.
      ⊎_elim
      (λ before. let less : (get_or orders k d).number < number = ranked (get_or orders k d).number number _ (sym ((parted comparisons_rise).0 k d (omega arith) before)) in omega (arith, less, same))
      (λ after. let more : number < (get_or orders k d).number = ranked (get_or orders k d).number number _ (sym ((parted comparisons_rise).1 k d after within)) in omega (arith, more, same))
      (cases_lt k place)

  pub told : (r : Result ℕ ℕ) (place : Option ℕ) → place ≡ result_ok r → IsSearchInRange r (length orders) → IsBinarySearchResult (λ o. nat_cmp o.number number) orders r
      → MatchOption place (All (λ o. o.number ≢ number) orders) (IsPlaceOf orders number)
  told (Ok place) found same inside equal = rw same (searched (Ok place) inside equal)
  told (Err place) found same inside parted = rw same (searched (Err place) inside parted)
