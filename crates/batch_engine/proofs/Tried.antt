-- Prices that are set and tested, and the attempts that are made.
use Rattle.std.proofs.Common.{◌≡◌, ◌≢◌, ℕ, zero, suc, ◌+◌, ◌<◌, ◌≤◌, Bool, true, false, not, inl, ⊎_elim, cond, eqb, ℤ, pos, List, [], ◌∷◌, ◌++◌, length, map, take, drop, set, get_or, refl, ap, sym, ◌∙◌, arith}
use Rattle.std.specs.List.{range_with_len, list_all}
use Rattle.std.proofs.lemmas.Bool.{cases_Bool, cases_lt, false≢true, and_parts}
use Rattle.std.proofs.lemmas.List.{take_more, take_more_set, take_all}
use Rattle.weight_rows.specs.Rows.{price_of}
use Rattle.flow_orders.specs.Orders.{Order}
use Rattle.flow_orders.specs.Excess.{is_unsettled, spread}
use Rattle.flow_orders.specs.declared.search.Search.{Search}
use Rattle.flow_orders.specs.Outcomes.{end_of, IsLegalFrom}
use Rattle.flow_orders.proofs.Moving.{has_walked}
use Rattle.joint_prices.specs.Numbers.{within}
use Rattle.joint_prices.specs.Steps.{joint_prices}
use Rattle.joint_prices.proofs.Filling.{filled_more, kept_at, kept_more}
use Rattle.canonical_rule.specs.Attempts.{are_settled, joint_price, joint_start, joint_attempts, EndsFirst, NoneSucceeds}
use Rattle.canonical_rule.proofs.Attempting.{ends_in_first, ends_in_second, none_in_both}
use Rattle.canonical_rule.proofs.CanonicalWalks.{walk_succeeds, walk_fails}
use Rattle.coordinate_search.specs.declared.searching.Found.{Found}
use Rattle.coordinate_search.specs.declared.searching.Found.TheVariants.{Settled, Spent}
use Rattle.coordinate_search.specs.Search.{IsFound}
use Rattle.batch_engine.specs.Private.{IsAttempted, IsSearched}

-- ---- tests

passes : (u : ℕ → Bool) (from count : ℕ) → ((a : ℕ) → from ≤ a → a < from + count → u a ≡ false) → list_all (λ a. not (u a)) (range_with_len from count) ≡ true
passes u from zero each = refl
passes u from (suc count) each = rw (each from (omega arith) (omega arith)) (passes u (from + 1) count (λ a low high. each a (omega (arith, low)) (omega (arith, high))))

passed : (u : ℕ → Bool) (from count : ℕ) → list_all (λ a. not (u a)) (range_with_len from count) ≡ true → (a : ℕ) → from ≤ a → a < from + count → u a ≡ false
passed u from zero all a low high = absurd (omega (arith, low, high))
passed u from (suc count) all a low high =
    let parts = and_parts (not (u from)) (list_all (λ a. not (u a)) (range_with_len (from + 1) count)) all in
    ⊎_elim
    (λ above. passed u (from + 1) count parts.1 a (omega (arith, above)) (omega (arith, high)))
    (λ here.
    let same : from ≡ a = omega (arith, here, low) in
    rw (← same) (⊎_elim (λ is. absurd (false≢true (rw is at parts.0))) (λ is. is) (cases_Bool (u from))))
    (cases_lt from a)

-- all assets are settled
pub tells_settled : (orders : List Order) (prices : List ℤ) (n : ℕ) → ((a : ℕ) → a < n → is_unsettled orders prices a ≡ false) → true ≡ are_settled orders n prices
tells_settled orders prices n each = sym (passes (is_unsettled orders prices) 0 n (λ a low high. each a (omega (arith, high))))

-- some asset isn't
pub tells_unsettled : (orders : List Order) (prices : List ℤ) (n a : ℕ) → a < n → is_unsettled orders prices a ≢ false → false ≡ are_settled orders n prices
tells_unsettled orders prices n a inside other =
    ⊎_elim
    (λ all. absurd (other (passed (is_unsettled orders prices) 0 n all a (omega arith) (omega (arith, inside)))))
    (λ not_all. sym not_all)
    (cases_Bool (are_settled orders n prices))

-- ---- prices that are set one after the other

pub one_more_set : (now ps : List ℤ) (k : ℕ) (d x : ℤ) → k < length now → k < length ps → x ≡ get_or ps k d → take k now ≡ take k ps → take (k + 1) (set now k x) ≡ take (k + 1) ps
one_more_set now ps k d x inside there is before =
    take_more_set now k x inside ∙ ap (λ l. l ++ x ∷ []) before ∙ ap (λ y. take k ps ++ y ∷ []) is ∙ sym (take_more ps k d there)

pub all_set : (now ps : List ℤ) (k : ℕ) → length now ≡ length ps → length ps ≤ k → take k now ≡ take k ps → now ≡ ps
all_set now ps k count past same = sym (take_all k now (omega (arith, count, past))) ∙ same ∙ take_all k ps past

-- one more joint price is cut
pub cut_more : (orders : List Order) (start old now : List ℤ) (k : ℕ) (s p x : ℤ) → k < length now → s ≡ price_of start k → p ≡ get_or now k (pos 0) → x ≡ cond (eqb (spread orders k) 0) s (within 60 p)
    → take k now ≡ map (joint_price orders start old) (range_with_len 0 k) → drop k now ≡ drop k old
    → (take (k + 1) (set now k x) ≡ map (joint_price orders start old) (range_with_len 0 (k + 1))) × (drop (k + 1) (set now k x) ≡ drop (k + 1) old)
cut_more orders start old now k s p x inside s_is p_is x_is before rest =
    let here : x ≡ joint_price orders start old k =
    x_is ∙ ap (λ z. cond (eqb (spread orders k) 0) z (within 60 p)) s_is ∙ ap (λ z. cond (eqb (spread orders k) 0) (price_of start k) (within 60 z)) (p_is ∙ kept_at now old k (pos 0) rest) in
    let place : k ≡ 0 + k = omega arith in
    (filled_more (joint_price orders start old) now 0 k x inside (here ∙ ap (joint_price orders start old) place) before, kept_more now old k x rest)

-- ---- attempts

-- what a search found is what its attempt comes to
pub found_is_attempted : (parts : ℕ) (orders : List Order) (start : List ℤ) (budget : ℕ) (found : Found) (walk : List ℕ) (end : List ℤ) → IsFound parts found orders start budget walk
    → end ≡ end_of parts orders start walk → IsAttempted parts orders (record { from = start; budget = budget }) found end
found_is_attempted parts orders start budget Settled walk end is ends = walk_succeeds parts orders start budget walk end is ends
found_is_attempted parts orders start budget Spent walk end is ends = walk_fails parts orders start budget walk is.0

-- the prices at the end of a walk are as many as at its start
pub end_count : (parts : ℕ) (orders : List Order) (start : List ℤ) (walk : List ℕ) (end : List ℤ) → IsLegalFrom parts orders start walk → end ≡ end_of parts orders start walk → length end ≡ length start
end_count parts orders start walk end legal ends = ap length ends ∙ (has_walked parts orders (length start) start walk refl legal).count

-- what the last search found is what all attempts come to, if none with joint prices succeeds
pub searched_at_last : (search : Search) (orders : List Order) (start : List ℤ) (budget : ℕ) (found : Found) (end : List ℤ) (walk : List ℕ) → NoneSucceeds search.parts orders (joint_attempts search.joint orders start budget)
    → IsFound search.parts found orders start budget walk → end ≡ end_of search.parts orders start walk → IsSearched search orders start budget found end walk
searched_at_last search orders start budget Settled end walk none is ends =
    ends_in_second search.parts orders (joint_attempts search.joint orders start budget) (record { from = start; budget = budget } ∷ []) end none (inl (walk_succeeds search.parts orders start budget walk end is ends))
searched_at_last search orders start budget Spent end walk none is ends = record {
  none = none_in_both search.parts orders (joint_attempts search.joint orders start budget) (record { from = start; budget = budget } ∷ []) none (walk_fails search.parts orders start budget walk is.0, tt);
  whole = is.0;
  ends = ends;
}

-- an attempt with joint prices that succeeds is one of all
pub searched_jointly : (search : Search) (orders : List Order) (start : List ℤ) (budget : ℕ) (end : List ℤ) (trace : List ℕ) → EndsFirst search.parts orders (joint_attempts search.joint orders start budget) end
    → IsSearched search orders start budget Settled end trace
searched_jointly search orders start budget end trace first =
    ends_in_first search.parts orders (joint_attempts search.joint orders start budget) (record { from = start; budget = budget } ∷ []) end first

-- the prices from which the attempt from joint prices starts, as they are made
pub started : (orders here mid : List Order) (start found new : List ℤ) (n : ℕ) → here ≡ orders → mid ≡ orders → n ≡ length start → found ≡ joint_prices (λ p. are_settled here n p) orders start
    → new ≡ map (joint_price mid start found) (range_with_len 0 (length start)) → new ≡ joint_start orders start
unfolding joint_start
started orders here mid start found new n here_is mid_is n_is found_is new_is =
    let found_at : found ≡ joint_prices (are_settled orders (length start)) orders start =
    found_is ∙ ap (λ os. joint_prices (λ p. are_settled os n p) orders start) here_is ∙ ap (λ m. joint_prices (λ p. are_settled orders m p) orders start) n_is in
    new_is
    ∙ ap (λ os. map (joint_price os start found) (range_with_len 0 (length start))) mid_is
    ∙ ap (λ f. map (joint_price orders start f) (range_with_len 0 (length start))) found_at
