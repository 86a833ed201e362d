-- In a book of one-asset orders one move of each unsettled asset settles all, and an asset that was settled keeps its price.
use Rattle.std.proofs.Common.{◌≡◌, ◌≢◌, ℕ, zero, suc, ◌+◌, ◌^◌, ◌≤◌, ◌<◌, ◌⊎◌, inl, inr, ⊎_elim, ℤ, pos, ◌+ℤ◌, ◌-ℤ◌, ◌*ℤ◌, List, [], ◌∷◌, length, get_or, ap, sym, ◌∙◌, subst, arith}
use Rattle.std.specs.Prelude.{All, Contains, slice_index_or}
use Rattle.std.specs.List.{range_with_len}
use Rattle.std.proofs.lemmas.Int.{ints}
use Rattle.std.proofs.lemmas.Bool.{cases_eq}
use Rattle.std.proofs.lemmas.List.{get_or-set_other}
use Rattle.std.proofs.lemmas.List.Elements.{All-set}
use Rattle.weight_rows.specs.Rows.{weight_in, price_of, portfolio_price}
use Rattle.demand_curve.specs.Demand.{IsWithin}
use Rattle.flow_orders.specs.Orders.{terms_of}
use Rattle.list_sums.proofs.SumLemmas.{int_sum_by-same_all}
use Rattle.flow_orders.specs.WholeUnits.{low_part, high_part}
use Rattle.flow_orders.specs.Orders.{Order}
use Rattle.flow_orders.proofs.Book.{IsConsistent, IsSettled}
use Rattle.flow_orders.specs.WholeUnits.{low_excess, high_excess}
use Rattle.flow_orders.proofs.Singles.{IsSingle, one_price}
use Rattle.flow_orders.proofs.SingleMoves.{rise_ends_within, fall_ends_within, rise_settles, fall_settles}
use Rattle.flow_orders.proofs.MoveFacts.{moved_unsettled}
use Rattle.flow_orders.proofs.DualWalks.{IsMove, length-move}

module _ (orders : List Order) (single : All IsSingle orders) where
  -- in a book of one-asset orders an asset's excess depends on its own price only
  pub low_excess-own : (prices others : List ℤ) (asset : ℕ) → price_of prices asset ≡ price_of others asset → low_excess orders prices asset ≡ low_excess orders others asset
  low_excess-own prices others asset same =
      int_sum_by-same_all (λ o. low_part (weight_in o.row asset) (terms_of o) (portfolio_price o.row prices)) (λ o. low_part (weight_in o.row asset) (terms_of o) (portfolio_price o.row others)) orders
      (λ k d inside.
      let o : Order = slice_index_or orders k d in
      ⊎_elim
      (λ none. rw none (omega (arith, ints)))
      (λ own. ⊎_elim
      (λ none. rw none (omega (arith, ints)))
      (λ own_too. ap (λ c. low_part (weight_in o.row asset) (terms_of o) c) (own ∙ ap (λ p. weight_in o.row asset *ℤ p) same ∙ sym own_too))
      (one_price o.row others asset (single k d inside)))
      (one_price o.row prices asset (single k d inside)))

  pub high_excess-own : (prices others : List ℤ) (asset : ℕ) → price_of prices asset ≡ price_of others asset → high_excess orders prices asset ≡ high_excess orders others asset
  high_excess-own prices others asset same =
      int_sum_by-same_all (λ o. high_part (weight_in o.row asset) (terms_of o) (portfolio_price o.row prices)) (λ o. high_part (weight_in o.row asset) (terms_of o) (portfolio_price o.row others)) orders
      (λ k d inside.
      let o : Order = slice_index_or orders k d in
      ⊎_elim
      (λ none. rw none (omega (arith, ints)))
      (λ own. ⊎_elim
      (λ none. rw none (omega (arith, ints)))
      (λ own_too. ap (λ c. high_part (weight_in o.row asset) (terms_of o) c) (own ∙ ap (λ p. weight_in o.row asset *ℤ p) same ∙ sym own_too))
      (one_price o.row others asset (single k d inside)))
      (one_price o.row prices asset (single k d inside)))

  -- in a book of one-asset orders, whether an asset is settled depends on its own price only
  pub settled_own : (prices others : List ℤ) (asset : ℕ) → price_of prices asset ≡ price_of others asset → IsSettled orders prices asset → IsSettled orders others asset
  settled_own prices others asset same settled =
      record {
        low = rw (← low_excess-own prices others asset same) settled.low;
        high = rw (← high_excess-own prices others asset same) settled.high;
      }

-- a visit leaves a settled asset as it is, and moves one that isn't
abbrev pub IsVisit : ℕ → List Order → ℕ → List ℤ → ℕ → List ℤ → Type 0
IsVisit parts orders reach prices asset next =
    (IsSettled orders prices asset × (next ≡ prices)) ⊎ ((d : ℕ) × IsMove parts orders prices asset reach d next)

-- the assets of a list are visited in turn
abbrev pub AreVisited : ℕ → List Order → ℕ → List ℤ → List ℕ → List ℤ → Type 0
AreVisited parts orders reach start [] stop = stop ≡ start
AreVisited parts orders reach start (asset ∷ assets) stop = (next : List ℤ) × IsVisit parts orders reach start asset next × AreVisited parts orders reach next assets stop

-- what holds after a visit
pub record HasVisited (orders : List Order) (prices : List ℤ) (asset : ℕ) (next : List ℤ) : Type 0 where
  pub settled : IsSettled orders next asset
  pub range : All (IsWithin (2 ^ 60)) next
  pub count : length next ≡ length prices
  pub others : (b : ℕ) → b ≢ asset → price_of next b ≡ price_of prices b
  pub kept : IsSettled orders prices asset → next ≡ prices

module _ (parts : ℕ) (some : 1 ≤ parts) (orders : List Order) (reach : ℕ) (consistent : All IsConsistent orders) (single : All IsSingle orders) (far : 2 ^ 61 ≤ reach) where
  -- a visit settles its asset, and changes no other price
  pub visit_settles : (prices : List ℤ) (asset : ℕ) (next : List ℤ) → asset < length prices → All (IsWithin (2 ^ 60)) prices → IsVisit parts orders reach prices asset next → HasVisited orders prices asset next
  visit_settles prices asset next within range visit =
      let start : IsWithin (2 ^ 60) (price_of prices asset) = range asset (pos 0) within in
      elim visit [
        | inl stays ↦ record {
          settled = rw stays.1 stays.0;
          range = rw stays.1 range;
          count = ap length stays.1;
          others = λ b apart. ap (λ p. price_of p b) stays.1;
          kept = λ settled. stays.1;
        }
        | inr moves ↦ elim moves.1 [
          | inl rise ↦
              let end = rise_ends_within parts some orders prices asset reach consistent single within moves.0 rise.0 in
              record {
                settled = rw rise.1 (rise_settles parts some orders prices asset reach consistent single within moves.0 start far rise.0);
                range = rw rise.1 (All-set (IsWithin (2 ^ 60)) prices asset (price_of prices asset +ℤ pos moves.0) (omega (arith, ints, start), end) range);
                count = length-move parts orders reach prices asset moves.0 next (inl rise);
                others = λ b apart. ap (λ p. price_of p b) rise.1 ∙ get_or-set_other prices asset b (price_of prices asset +ℤ pos moves.0) (pos 0) apart;
                kept = λ settled. absurd (moved_unsettled parts orders prices asset reach moves.0 next (inl rise) settled);
              }
          | inr fall ↦
              let end = fall_ends_within parts some orders prices asset reach consistent single within moves.0 fall.0 in
              record {
                settled = rw fall.1 (fall_settles parts some orders prices asset reach consistent single within moves.0 start far fall.0);
                range = rw fall.1 (All-set (IsWithin (2 ^ 60)) prices asset (price_of prices asset -ℤ pos moves.0) (end, omega (arith, ints, start)) range);
                count = length-move parts orders reach prices asset moves.0 next (inr fall);
                others = λ b apart. ap (λ p. price_of p b) fall.1 ∙ get_or-set_other prices asset b (price_of prices asset -ℤ pos moves.0) (pos 0) apart;
                kept = λ settled. absurd (moved_unsettled parts orders prices asset reach moves.0 next (inr fall) settled);
              }
        ]
      ]

  -- an asset that was settled keeps its price at a visit of any asset
  visit_keeps : (prices : List ℤ) (asset : ℕ) (next : List ℤ) (b : ℕ) → HasVisited orders prices asset next → IsSettled orders prices b → price_of next b ≡ price_of prices b
  visit_keeps prices asset next b visited settled =
      elim (cases_eq b asset) [
        | inl same ↦ ap (λ p. price_of p b) (visited.kept (subst (λ a. IsSettled orders prices a) same settled))
        | inr apart ↦ visited.others b apart
      ]

  -- visits leave all prices within 2^60
  pub visits_within : (assets : List ℕ) (start stop : List ℤ) → All (λ a. a < length start) assets → All (IsWithin (2 ^ 60)) start → AreVisited parts orders reach start assets stop → All (IsWithin (2 ^ 60)) stop
  visits_within [] start stop priced range same = rw same range
  visits_within (asset ∷ assets) start stop priced range (next, visit, visits) =
      let visited = visit_settles start asset next (priced 0 asset (omega arith)) range visit in
      visits_within assets next stop (λ k d inside. subst (λ n. get_or assets k d < n) (sym visited.count) (priced (suc k) d (omega (arith, inside)))) visited.range visits

  -- an asset that was settled keeps its price
  pub visits_keep : (assets : List ℕ) (start stop : List ℤ) (b : ℕ) → All (λ a. a < length start) assets → All (IsWithin (2 ^ 60)) start → AreVisited parts orders reach start assets stop → IsSettled orders start b → price_of stop b ≡ price_of start b
  visits_keep [] start stop b priced range same settled = ap (λ p. price_of p b) same
  visits_keep (asset ∷ assets) start stop b priced range (next, visit, visits) settled =
      let visited = visit_settles start asset next (priced 0 asset (omega arith)) range visit in
      let here = visit_keeps start asset next b visited settled in
      visits_keep assets next stop b (λ k d inside. subst (λ n. get_or assets k d < n) (sym visited.count) (priced (suc k) d (omega (arith, inside)))) visited.range visits (settled_own orders single start next b (sym here) settled) ∙ here

  -- an asset that was settled or is visited is settled after the visits
  pub visits_settle : (assets : List ℕ) (start stop : List ℤ) (b : ℕ) → All (λ a. a < length start) assets → All (IsWithin (2 ^ 60)) start → AreVisited parts orders reach start assets stop → IsSettled orders start b ⊎ Contains assets b → IsSettled orders stop b
  visits_settle [] start stop b priced range same (inl settled) = rw same settled
  visits_settle [] start stop b priced range same (inr (k, inside, at_k)) = absurd (omega (arith, inside))
  visits_settle (asset ∷ assets) start stop b priced range (next, visit, visits) reason =
      let visited = visit_settles start asset next (priced 0 asset (omega arith)) range visit in
      visits_settle assets next stop b (λ k d inside. subst (λ n. get_or assets k d < n) (sym visited.count) (priced (suc k) d (omega (arith, inside)))) visited.range visits
      (carried reason visited)
    where
      carried : IsSettled orders start b ⊎ Contains (asset ∷ assets) b → HasVisited orders start asset next → IsSettled orders next b ⊎ Contains assets b
      carried (inl settled) visited = inl (settled_own orders single start next b (sym (visit_keeps start asset next b visited settled)) settled)
      carried (inr (zero, inside, at_k)) visited = inl (subst (λ a. IsSettled orders next a) at_k visited.settled)
      carried (inr (suc k, inside, at_k)) visited = inr (k, omega (arith, inside), at_k)

-- the range from a contains the numbers from a to a + n - 1
in_range : (a n b : ℕ) → a ≤ b → b < a + n → Contains (range_with_len a n) b
in_range a zero b from to = absurd (omega (arith, from, to))
in_range a (suc n) b from to =
    elim (cases_eq a b) [
      | inl same ↦ (0, omega arith, same)
      | inr apart ↦ let rest = in_range (a + 1) n b (omega (arith, from, apart)) (omega (arith, to)) in (suc rest.0, omega (arith, rest.1), rest.2)
    ]

in_range_below : (a n : ℕ) → All (λ k. k < a + n) (range_with_len a n)
in_range_below a zero k d inside = absurd (omega (arith, inside))
in_range_below a (suc n) zero d inside = omega arith
in_range_below a (suc n) (suc k) d inside =
    let one = in_range_below (a + 1) n k d (omega (arith, inside)) in
    omega (arith, one)

-- all assets, visited once in ascending number, are settled at prices within 2^60, and an asset that was settled keeps its price
pub record IsSettledOnce (orders : List Order) (start stop : List ℤ) : Type 0 where
  pub settled : (a : ℕ) → a < length start → IsSettled orders stop a
  pub range : All (IsWithin (2 ^ 60)) stop
  pub kept : (a : ℕ) → IsSettled orders start a → price_of stop a ≡ price_of start a

pub settles_single : (parts : ℕ) → 1 ≤ parts → (orders : List Order) (reach : ℕ) → All IsConsistent orders → All IsSingle orders → 2 ^ 61 ≤ reach → (start stop : List ℤ) → All (IsWithin (2 ^ 60)) start → AreVisited parts orders reach start (range_with_len 0 (length start)) stop → IsSettledOnce orders start stop
settles_single parts some orders reach consistent single far start stop range visits =
    let priced : All (λ a. a < length start) (range_with_len 0 (length start)) = λ k d inside. let one = in_range_below 0 (length start) k d inside in omega (arith, one) in
    record {
      settled = λ a below. visits_settle parts some orders reach consistent single far (range_with_len 0 (length start)) start stop a priced range visits (inr (in_range 0 (length start) a (omega arith) (omega (arith, below))));
      range = visits_within parts some orders reach consistent single far (range_with_len 0 (length start)) start stop priced range visits;
      kept = λ a settled. visits_keep parts some orders reach consistent single far (range_with_len 0 (length start)) start stop a priced range visits settled;
    }
