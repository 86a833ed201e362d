-- The place of a ticker in a table.
use Rattle.std.proofs.Common.{◌≡◌, ◌≢◌, ℕ, ◌<◌, ◌≤◌, Bool, true, false, cond, List, [], ◌∷◌, ◌++◌, get_or, slice_get, Some, Contains, AllPairs, position, bytes_eq, true≢false, ⊎_elim, refl, sym, ap, ◌∙◌, arith}
use Rattle.std.specs.List.{list_any}
use Rattle.std.specs.Cmp.Lexicographic.{nat_list_eq_equiv}
use Rattle.std.proofs.lemmas.Bool.{cases_lt}
use Rattle.std.proofs.lemmas.List.Elements.{All-push}
use Rattle.std.proofs.lemmas.List.Quantifiers.{position-Some, all_pairs_push}
use Rattle.std.proofs.lemmas.Map.Views.{list_any-from_Contains, Contains-from_any}
use Rattle.std.proofs.lemmas.Option.{slice_get-get_or, slice_get_within, get_or_from_slice_get}
use Rattle.std.proofs.lemmas.Slice.Eq.{bytes_eq-Decides}
use Rattle.std.proofs.lemmas.List.{get_or_default, length_push}
use Rattle.indexmap.specs.IndexSet.{insert_key}
use Rattle.ticker_table.specs.Tickers.{HasNumber, IsTicker, AreTickers, ticker_limit}
use Rattle.ticker_table.specs.Adding.{IsAddable}

-- a ticker with a number is in the table
pub Contains-from_number : (tickers : List (List ℕ)) (number : ℕ) (ticker : List ℕ) → HasNumber tickers number ticker → Contains tickers ticker
Contains-from_number tickers number ticker at =
    (number, slice_get_within tickers number ticker at, get_or_from_slice_get tickers number ticker ticker at)

later : (tickers : List (List ℕ)) → AllPairs ◌≢◌ tickers → (i j : ℕ) (ticker : List ℕ) → i < j → HasNumber tickers i ticker → HasNumber tickers j ticker → ⊥
later tickers distinct i j ticker before at_i at_j =
    distinct i j ticker before (slice_get_within tickers j ticker at_j) (get_or_from_slice_get tickers i ticker ticker at_i ∙ sym (get_or_from_slice_get tickers j ticker ticker at_j))

-- a ticker has one number
pub one_number : (tickers : List (List ℕ)) → AllPairs ◌≢◌ tickers → (i j : ℕ) (ticker : List ℕ) → HasNumber tickers i ticker → HasNumber tickers j ticker → i ≡ j
one_number tickers distinct i j ticker at_i at_j =
    ⊎_elim
    (λ (before : i < j). absurd (later tickers distinct i j ticker before at_i at_j))
    (λ (after : j ≤ i). ⊎_elim (λ (below : j < i). absurd (later tickers distinct j i ticker below at_j at_i)) (λ (reached : i ≤ j). omega arith) (cases_lt j i))
    (cases_lt i j)

-- what a look-up among the keys found
pub found_number : (keys tickers : List (List ℕ)) (ticker : List ℕ) (number : ℕ) → keys ≡ tickers → position (bytes_eq ticker) keys ≡ Some number → HasNumber tickers number ticker
found_number keys tickers ticker number same found =
    let p = position-Some (bytes_eq ticker) keys number ticker found in
    let equal = (bytes_eq-Decides ticker (get_or keys number ticker)).0 p.1 in
    ap (λ list. slice_get list number) (sym same) ∙ slice_get-get_or keys number ticker p.0 ∙ ap Some (sym equal)

-- a look-up that found nothing shows that the ticker isn't in the table
pub found_none : (keys tickers : List (List ℕ)) (ticker : List ℕ) → keys ≡ tickers → false ≡ list_any (bytes_eq ticker) keys → Contains tickers ticker → ⊥
found_none keys tickers ticker same none there =
    true≢false (sym (list_any-from_Contains nat_list_eq_equiv ticker tickers there) ∙ ap (list_any (bytes_eq ticker)) (sym same) ∙ sym none)

-- a table with one more ticker is a table
pub AreTickers-push : (most : ℕ) (tickers : List (List ℕ)) (ticker : List ℕ) → most ≤ ticker_limit → AreTickers tickers → IsAddable most tickers ticker → AreTickers (tickers ++ ticker ∷ [])
AreTickers-push most tickers ticker fits h addable = record {
  valid = All-push IsTicker tickers ticker h.valid addable.valid;
  distinct = all_pairs_push ◌≢◌ tickers ticker h.distinct (λ k d l e. addable.absent (k, l, get_or_default tickers k ticker d l ∙ e));
  few = omega (arith, length_push tickers ticker, addable.place, fits);
}

no_key : (keys : List (List ℕ)) (ticker : List ℕ) → (Contains keys ticker → ⊥) → list_any (bytes_eq ticker) keys ≡ false
no_key keys ticker absent = by (list_any (bytes_eq ticker) keys) refl
  where
    by : (b : Bool) → list_any (bytes_eq ticker) keys ≡ b → list_any (bytes_eq ticker) keys ≡ false
    by true e = absurd (absent (Contains-from_any (λ x y. (bytes_eq-Decides x y).0) ticker keys e))
    by false e = e

-- a ticker that isn't in the table is inserted at the end
pub inserted_last : (keys tickers : List (List ℕ)) (ticker : List ℕ) → keys ≡ tickers → (Contains tickers ticker → ⊥) → insert_key bytes_eq keys ticker ≡ tickers ++ ticker ∷ []
inserted_last keys tickers ticker same absent =
    ap (λ list. insert_key bytes_eq list ticker) same ∙ ap (λ b. cond b tickers (tickers ++ ticker ∷ [])) (no_key tickers ticker absent)
