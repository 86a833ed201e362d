-- A move of the definitions as the proofs state it, `IsMove`; what a walk leaves.
use Rattle.std.proofs.Common.{◌≡◌, ◌≢◌, ℕ, zero, suc, ◌+◌, ◌*◌, ◌^◌, ◌≤◌, ◌<◌, ◌⊎◌, inl, inr, ⊎_elim, Bool, true, false, not, ◌||◌, cond, ℤ, pos, ◌+ℤ◌, ◌-ℤ◌, ◌≤ℤ◌, ◌<ℤ◌, List, [], ◌∷◌, length, Some, None, set, refl, ap, sym, subst, ◌∙◌, arith}
use Rattle.std.specs.Prelude.{All, Contains, neg_ℤ, slice_index_or, unsigned_abs}
use Rattle.std.specs.List.{range_with_len}
use Rattle.std.proofs.lemmas.Int.{ints}
use Rattle.std.proofs.lemmas.Bool.{cases_Bool, cases_lt, or_parts, false≢true}
use Rattle.std.proofs.lemmas.List.{get_or-set_other, length-set}
use Rattle.std.proofs.lemmas.List.Elements.{All-set}
use Rattle.list_sums.specs.Sums.{int_sum_by}
use Rattle.weight_rows.specs.Rows.{assets_of, weight_in, price_of}
use Rattle.weight_rows.specs.declared.entries.Entry.{Entry}
use Rattle.std.proofs.lemmas.Bool.Decides.{eqb_tells}
use Rattle.flow_orders.specs.Orders.{Order, terms_of}
use Rattle.flow_orders.specs.Excess.{price_for, low_excess_in, high_excess_in, steepness, is_above_in, is_below_in, is_unsettled}
use Rattle.flow_orders.specs.WholeUnits.{low_part, high_part, low_excess, high_excess, is_above, is_below}
use Rattle.flow_orders.specs.Walks.{first_that, walk_end, IsLegal}
use Rattle.flow_orders.specs.Moves.{least_amount, risen, fallen, rise_of, fall_of, moved, amount_of, walk_reach}
use Rattle.flow_orders.specs.Outcomes.{step_of, IsUnnamed}
use Rattle.flow_orders.specs.Duals.{movement_of}
use Rattle.flow_orders.proofs.Book.{IsSettled}
use Rattle.flow_orders.proofs.WholeUnits.{above_one, below_one, unsettled_one}
use Rattle.flow_orders.proofs.Moves.{IsRise, IsFall}
use Rattle.flow_orders.proofs.DualWalks.{IsMove, IsWalk}
use Rattle.list_sums.proofs.SumLemmas.{int_sum_by-same_all}

-- ---- settled and unsettled

pub above_is : (orders : List Order) (prices : List ℤ) (asset : ℕ) → is_above orders prices asset ≡ true → pos (steepness orders asset) <ℤ low_excess orders prices asset
above_is orders prices asset e = omega (arith, ints, e)

pub not_above_is : (orders : List Order) (prices : List ℤ) (asset : ℕ) → is_above orders prices asset ≡ false → low_excess orders prices asset ≤ℤ pos (steepness orders asset)
not_above_is orders prices asset e = omega (arith, ints, e)

pub below_is : (orders : List Order) (prices : List ℤ) (asset : ℕ) → is_below orders prices asset ≡ true → high_excess orders prices asset <ℤ neg_ℤ (pos (steepness orders asset))
below_is orders prices asset e = omega (arith, ints, e)

pub not_below_is : (orders : List Order) (prices : List ℤ) (asset : ℕ) → is_below orders prices asset ≡ false → neg_ℤ (pos (steepness orders asset)) ≤ℤ high_excess orders prices asset
not_below_is orders prices asset e = omega (arith, ints, e)

-- `is_above_in`, as an inequality
pub above_in_is : (parts : ℕ) (orders : List Order) (prices : List ℤ) (asset : ℕ) → is_above_in parts orders prices asset ≡ true → pos (parts * steepness orders asset) <ℤ low_excess_in parts orders prices asset
above_in_is parts orders prices asset e = omega (arith, ints, e)

pub not_above_in_is : (parts : ℕ) (orders : List Order) (prices : List ℤ) (asset : ℕ) → is_above_in parts orders prices asset ≡ false → low_excess_in parts orders prices asset ≤ℤ pos (parts * steepness orders asset)
not_above_in_is parts orders prices asset e = omega (arith, ints, e)

pub below_in_is : (parts : ℕ) (orders : List Order) (prices : List ℤ) (asset : ℕ) → is_below_in parts orders prices asset ≡ true → high_excess_in parts orders prices asset <ℤ neg_ℤ (pos (parts * steepness orders asset))
below_in_is parts orders prices asset e = omega (arith, ints, e)

pub not_below_in_is : (parts : ℕ) (orders : List Order) (prices : List ℤ) (asset : ℕ) → is_below_in parts orders prices asset ≡ false → neg_ℤ (pos (parts * steepness orders asset)) ≤ℤ high_excess_in parts orders prices asset
not_below_in_is parts orders prices asset e = omega (arith, ints, e)

pub settled_is : (orders : List Order) (prices : List ℤ) (asset : ℕ) → is_unsettled orders prices asset ≡ false → IsSettled orders prices asset
settled_is orders prices asset e =
    let parts = or_parts (is_above orders prices asset) (is_below orders prices asset) (sym (unsettled_one orders prices asset) ∙ e) in
    record { low = not_above_is orders prices asset parts.0; high = not_below_is orders prices asset parts.1 }

pub is_settled : (orders : List Order) (prices : List ℤ) (asset : ℕ) → IsSettled orders prices asset → is_unsettled orders prices asset ≡ false
is_settled orders prices asset settled = unsettled_one orders prices asset ∙ by (is_above orders prices asset) (is_below orders prices asset) refl refl
  where
    by : (a b : Bool) → is_above orders prices asset ≡ a → is_below orders prices asset ≡ b → (a || b) ≡ false
    by true b e f = absurd (omega (arith, ints, settled.low, above_is orders prices asset e))
    by false true e f = absurd (omega (arith, ints, settled.high, below_is orders prices asset f))
    by false false e f = refl

-- ---- the least amount

-- no number of a range passes a test, or there is a first that does
pub first_in_range : (test : ℕ → Bool) (from count : ℕ)
    → ((first_that test (range_with_len from count) ≡ None) × ((k : ℕ) → from ≤ k → k < from + count → test k ≡ false))
    ⊎ ((a : ℕ) × (first_that test (range_with_len from count) ≡ Some a) × (from ≤ a) × (a < from + count) × (test a ≡ true) × ((k : ℕ) → from ≤ k → k < a → test k ≡ false))
first_in_range test from zero = inl (refl, λ k least most. absurd (omega (arith, least, most)))
first_in_range test from (suc count) =
    ⊎_elim
    (λ here. inr (from, ap (λ b. cond b (Some from) (first_that test (range_with_len (from + 1) count))) here, omega arith, omega arith, here, λ k least most. absurd (omega (arith, least, most))))
    (λ (no : test from ≡ false).
    let skip : first_that test (range_with_len from (suc count)) ≡ first_that test (range_with_len (from + 1) count) = ap (λ b. cond b (Some from) (first_that test (range_with_len (from + 1) count))) no in
    let each : (top : ℕ) → ((k : ℕ) → from + 1 ≤ k → k < top → test k ≡ false) → (k : ℕ) → from ≤ k → k < top → test k ≡ false =
    λ top later k least most. ⊎_elim (λ above. later k (omega (arith, above)) most) (λ same. let is : from ≡ k = omega (arith, same, least) in subst (λ j. test j ≡ false) is no) (cases_lt from k) in
    ⊎_elim
    (λ none. inl (skip ∙ none.0, λ k least most. each (from + 1 + count) none.1 k least (omega (arith, most))))
    (λ some. inr (some.0, skip ∙ some.1, omega (arith, some.2), omega (arith, some.3), some.4, each some.0 some.5))
    (first_in_range test (from + 1) count))
    (cases_Bool (test from))

-- the least number from 1 to the reach that passes, or the reach if none does
pub record IsLeast (passes : ℕ → Bool) (reach d : ℕ) : Type 0 where
  pub least : 1 ≤ d
  pub most : d ≤ reach
  pub first : (e : ℕ) → 1 ≤ e → e < d → passes e ≡ false
  pub ends : (passes d ≡ true) ⊎ (d ≡ reach)

pub least_amount_is : (reach : ℕ) (passes : ℕ → Bool) → 1 ≤ reach → IsLeast passes reach (least_amount reach passes)
unfolding least_amount
least_amount_is reach passes some =
    ⊎_elim
    (λ none. rw none.0 (record { least = some; most = omega arith; first = λ e one below. none.1 e one (omega (arith, below)); ends = inr refl }))
    (λ found. rw found.1 (record { least = found.2; most = omega (arith, found.3); first = found.5; ends = inl found.4 }))
    (first_in_range passes 1 reach)

not_is : (b c : Bool) → not b ≡ c → b ≡ not c
not_is true true e = absurd (false≢true e)
not_is true false e = refl
not_is false true e = refl
not_is false false e = absurd (false≢true (sym e))

-- ---- a move

module _ (parts : ℕ) (orders : List Order) (reach : ℕ) (prices : List ℤ) (asset : ℕ) (some : 1 ≤ reach) where
  rise_is : is_above orders prices asset ≡ true → IsRise parts orders prices asset reach (rise_of parts orders reach prices asset)
  rise_is above =
      let is = least_amount_is reach (λ d. not (is_above_in parts orders (risen prices asset d) asset)) some in
      record {
        above = above_is orders prices asset above;
        least = is.least;
        most = is.most;
        first = λ e one below. above_in_is parts orders (risen prices asset e) asset (not_is (is_above_in parts orders (risen prices asset e) asset) false (is.first e one below));
        ends = ⊎_elim (λ passes. inl (not_above_in_is parts orders (risen prices asset (rise_of parts orders reach prices asset)) asset (not_is (is_above_in parts orders (risen prices asset (rise_of parts orders reach prices asset)) asset) true passes))) (λ all. inr all) is.ends;
      }

  fall_is : is_below orders prices asset ≡ true → IsFall parts orders prices asset reach (fall_of parts orders reach prices asset)
  fall_is below =
      let is = least_amount_is reach (λ d. not (is_below_in parts orders (fallen prices asset d) asset)) some in
      record {
        below = below_is orders prices asset below;
        least = is.least;
        most = is.most;
        first = λ e one less. below_in_is parts orders (fallen prices asset e) asset (not_is (is_below_in parts orders (fallen prices asset e) asset) false (is.first e one less));
        ends = ⊎_elim (λ passes. inl (not_below_in_is parts orders (fallen prices asset (fall_of parts orders reach prices asset)) asset (not_is (is_below_in parts orders (fallen prices asset (fall_of parts orders reach prices asset)) asset) true passes))) (λ all. inr all) is.ends;
      }

  -- if an asset is unsettled, the move of the definitions is a rise or a fall by the least amount
  pub moves_by : is_unsettled orders prices asset ≡ true → IsMove parts orders prices asset reach (amount_of parts orders reach prices asset) (moved parts orders reach prices asset)
  unfolding is_unsettled moved amount_of
  moves_by unsettled = by (is_above_in 1 orders prices asset) (is_below_in 1 orders prices asset) (sym (above_one orders prices asset)) (sym (below_one orders prices asset)) unsettled
    where
      by : (a b : Bool) → is_above orders prices asset ≡ a → is_below orders prices asset ≡ b → (a || b) ≡ true
          → IsMove parts orders prices asset reach (cond a (rise_of parts orders reach prices asset) (cond b (fall_of parts orders reach prices asset) 0)) (cond a (risen prices asset (rise_of parts orders reach prices asset)) (cond b (fallen prices asset (fall_of parts orders reach prices asset)) prices))
      by true b e f u = inl (rise_is e, refl)
      by false true e f u = inr (fall_is f, refl)
      by false false e f u = absurd (false≢true u)

  pub moved_is : is_unsettled orders prices asset ≡ true → (d : ℕ) × IsMove parts orders prices asset reach d (moved parts orders reach prices asset)
  moved_is unsettled = (amount_of parts orders reach prices asset, moves_by unsettled)

-- ---- an asset that no order names

-- an asset that no leg names has no weight
weight_unnamed : (row : List Entry) (asset : ℕ) → (Contains (assets_of row) asset → ⊥) → weight_in row asset ≡ pos 0
unfolding weight_in
weight_unnamed [] asset absent = refl
weight_unnamed (e ∷ row) asset absent =
    ⊎_elim
    (λ same. absurd (absent (0, omega arith, same.1)))
    (λ other. rw other.0 (weight_unnamed row asset (λ there. absent (suc there.0, omega (arith, there.1), there.2))))
    (eqb_tells e.asset asset)

sum_of_zeros : {X : Type 0} (xs : List X) → int_sum_by (λ x. pos 0) xs ≡ pos 0
sum_of_zeros [] = refl
sum_of_zeros (x ∷ xs) = omega (arith, ints, sum_of_zeros xs)

-- an asset that no order names is settled at any prices
pub unnamed_is_settled : (orders : List Order) (prices : List ℤ) (asset : ℕ) → IsUnnamed orders asset → IsSettled orders prices asset
unnamed_is_settled orders prices asset none =
    let weights : All (λ (o : Order). weight_in o.row asset ≡ pos 0) orders = λ k d inside. weight_unnamed (slice_index_or orders k d).row asset (none k d inside) in
    let low = int_sum_by-same_all (λ (o : Order). low_part (weight_in o.row asset) (terms_of o) (price_for prices o)) (λ o. pos 0) orders (λ k d inside. rw (weights k d inside) (omega (arith, ints))) in
    let high = int_sum_by-same_all (λ (o : Order). high_part (weight_in o.row asset) (terms_of o) (price_for prices o)) (λ o. pos 0) orders (λ k d inside. rw (weights k d inside) (omega (arith, ints))) in
    record { low = omega (arith, ints, low, sum_of_zeros orders); high = omega (arith, ints, high, sum_of_zeros orders) }

-- ---- a walk

-- all prices are at most `bound` away from 0
abbrev pub AreWithin : ℕ → List ℤ → Type 0
AreWithin bound prices = All (λ p. unsigned_abs p ≤ bound) prices

wider : (b c : ℕ) (prices : List ℤ) → b ≤ c → AreWithin b prices → AreWithin c prices
wider b c prices less within k d inside = let one = within k d inside in omega (arith, one, less)

-- what holds after one move
record HasMoved (reach : ℕ) (prices : List ℤ) (asset : ℕ) (next : List ℤ) : Type 0 where
  count : length next ≡ length prices
  range : (b : ℕ) → AreWithin b prices → AreWithin (b + reach) next
  others : (other : ℕ) → other ≢ asset → price_of next other ≡ price_of prices other

far_price : (x : ℤ) (d b reach : ℕ) → unsigned_abs x ≤ b → d ≤ reach → (unsigned_abs (x +ℤ pos d) ≤ b + reach) × (unsigned_abs (x -ℤ pos d) ≤ b + reach)
far_price x d b reach near most = (omega (arith, ints, near, most), omega (arith, ints, near, most))

has_set : (reach : ℕ) (prices : List ℤ) (asset : ℕ) (x : ℤ) → asset < length prices → ((b : ℕ) → unsigned_abs (price_of prices asset) ≤ b → unsigned_abs x ≤ b + reach) → HasMoved reach prices asset (set prices asset x)
has_set reach prices asset x there near = record {
  count = length-set prices asset x;
  range = λ b within. All-set (λ p. unsigned_abs p ≤ b + reach) prices asset x (near b (within asset (pos 0) there)) (wider b (b + reach) prices (omega arith) within);
  others = λ other apart. get_or-set_other prices asset other x (pos 0) apart;
}

has_moved : (parts : ℕ) (orders : List Order) (reach : ℕ) (prices : List ℤ) (asset : ℕ) → 1 ≤ reach → asset < length prices → is_unsettled orders prices asset ≡ true → HasMoved reach prices asset (moved parts orders reach prices asset)
has_moved parts orders reach prices asset some there unsettled =
    let move = moved_is parts orders reach prices asset some unsettled in
    ⊎_elim
    (λ rise. subst (HasMoved reach prices asset) (sym rise.1) (has_set reach prices asset (price_of prices asset +ℤ pos move.0) there (λ b near. (far_price (price_of prices asset) move.0 b reach near rise.0.most).0)))
    (λ fall. subst (HasMoved reach prices asset) (sym fall.1) (has_set reach prices asset (price_of prices asset -ℤ pos move.0) there (λ b near. (far_price (price_of prices asset) move.0 b reach near fall.0.most).1)))
    move.1

-- what holds after a valid walk
pub record HasWalked (orders : List Order) (start : List ℤ) (steps : ℕ) (end : List ℤ) : Type 0 where
  pub count : length end ≡ length start
  pub range : (b : ℕ) → AreWithin b start → AreWithin (b + steps * 2 ^ 45) end
  pub unnamed : (asset : ℕ) → IsUnnamed orders asset → price_of end asset ≡ price_of start asset

pub has_walked : (parts : ℕ) (orders : List Order) (n : ℕ) (start : List ℤ) (walk : List ℕ) → length start ≡ n → IsLegal n (is_unsettled orders) (step_of parts orders) start walk → HasWalked orders start (length walk) (walk_end (step_of parts orders) start walk)
has_walked parts orders n start [] count legal = record { count = refl; range = λ b within. wider b (b + 0 * 2 ^ 45) start (omega arith) within; unnamed = λ asset none. refl }
has_walked parts orders n start (a ∷ walk) count legal =
    let here = has_moved parts orders walk_reach start a (omega arith) (omega (arith, legal.0, count)) legal.1 in
    let next = step_of parts orders start a in
    let rest = has_walked parts orders n next walk (here.count ∙ count) legal.2 in
    record {
      count = rest.count ∙ here.count;
      range = λ b within. wider (b + 2 ^ 45 + length walk * 2 ^ 45) (b + length (a ∷ walk) * 2 ^ 45) _ (omega arith) (rest.range (b + 2 ^ 45) (here.range b within));
      unnamed = λ asset none.
          let apart : asset ≢ a = λ same. false≢true (sym (is_settled orders start a (subst (IsSettled orders start) same (unnamed_is_settled orders start asset none))) ∙ legal.1) in
          rest.unnamed asset none ∙ here.others asset apart;
    }

-- a valid walk of the definitions is a walk by `IsWalk`, with its movement
pub legal_moves : (parts : ℕ) (orders : List Order) (n : ℕ) (start : List ℤ) (walk : List ℕ) → length start ≡ n → IsLegal n (is_unsettled orders) (step_of parts orders) start walk
    → IsWalk parts orders walk_reach start walk (walk_end (step_of parts orders) start walk) (movement_of parts orders start walk)
legal_moves parts orders n start [] count legal = (refl, refl)
legal_moves parts orders n start (a ∷ walk) count legal =
    let there : a < length start = omega (arith, legal.0, count) in
    let here = has_moved parts orders walk_reach start a (omega arith) there legal.1 in
    let rest = legal_moves parts orders n (step_of parts orders start a) walk (here.count ∙ count) legal.2 in
    (step_of parts orders start a, amount_of parts orders walk_reach start a, movement_of parts orders (step_of parts orders start a) walk, there, moves_by parts orders walk_reach start a (omega arith) legal.1, rest, refl)

-- in a book without orders no walk is valid but the empty one
pub no_orders_no_walk : (parts n : ℕ) (start : List ℤ) (walk : List ℕ) → IsLegal n (is_unsettled []) (step_of parts []) start walk → movement_of parts [] start walk ≡ 0
no_orders_no_walk parts n start [] legal = refl
no_orders_no_walk parts n start (a ∷ walk) legal =
    absurd (false≢true (sym (is_settled [] start a (unnamed_is_settled [] start a (λ k d inside. absurd (omega (arith, inside))))) ∙ legal.1))
