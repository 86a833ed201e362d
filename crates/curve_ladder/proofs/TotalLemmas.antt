-- A ladder's orders as the first ones of a list of orders, and what they trade.
use Rattle.std.proofs.Common.{◌≡◌, ℕ, zero, suc, ◌+◌, ◌*◌, ◌^◌, ◌<◌, ◌≤◌, pos, Bool, true, false, cond, List, [], ◌∷◌, length, take, drop, get_or, subst, sym, ap, ◌∙◌, refl, ◌⊎◌, inl, inr, ⊎_elim, arith}
use Rattle.std.specs.Prelude.{◌↔◌, Contains, sum, nat_le, nat_lt, ◌&&◌, IsTrue}
use Rattle.std.specs.Bool.{Decides}
use Rattle.std.specs.List.Sorted.{IsNonDecreasingBy}
use Rattle.std.proofs.lemmas.Bool.{le-leb, lt-leb, lt-ltb, le-ltb, cases_lt}
use Rattle.std.proofs.lemmas.List.{drop_more}
use Rattle.std.proofs.lemmas.List.Sums.{sum_by-cons}
use Rattle.weight_rows.specs.declared.entries.Entry.{Entry}
use Rattle.flow_orders.specs.Orders.{Order, terms_of, price_of_ticks}
use Rattle.flow_orders.specs.Trades.{Trade, trades}
use Rattle.curve_ladder.specs.declared.segment.Segment.{Segment}
use Rattle.curve_ladder.specs.Totals.{IsOrderOf, AreThere, AreAscending, traded_from}
use Rattle.curve_ladder.specs.Private.{AreBefore}

-- ---- one order
-- what is tested of an order
pub is_order_where : (number : ℕ) (row : List Entry) (s : Segment) (o : Order) (entries : List Entry) (r : Bool) → o.number ≡ number → o.rate ≡ s.rate → (terms_of o).room ≡ s.rate
    → (o.low ≡ price_of_ticks s.low) × (o.high ≡ price_of_ticks s.high) → entries ≡ o.row → Decides r (entries ≡ row)
    → IsTrue r ↔ IsOrderOf number row s o
is_order_where number row s o entries r number_is rate_is room_is limits same decides = (
  (λ true_is. record { number_is = number_is; low_is = limits.0; high_is = limits.1; rate_is = rate_is; room_is = room_is; row_is = sym same ∙ decides.0 true_is }),
  (λ order. decides.1 (same ∙ order.row_is)),
)

-- what a read past the end of orders answers
abbrev pub no_order : Order
no_order = record { number = 0; account = 0; low = price_of_ticks (pos 0); high = price_of_ticks (pos 0); rate = 0; cap = 0; filled = 0; row = []; last = 0 }

-- ---- a loop over the segments
-- the first `place` orders are those of segments, and their rates add up to `total`; the segments `left` remain
pub record IsSoFar (first : ℕ) (row : List Entry) (segments : List Segment) (orders : List Order) (rates : List ℕ) (place total : ℕ) (left : List Segment) : Type 0 where
  pub counted : place + length left ≡ length segments
  pub there : AreBefore (first + place) row left (drop place orders) ↔ AreBefore first row segments orders
  pub sum_is : total + sum (take (length left) (drop place rates)) ≡ sum (take (length segments) rates)
  pub small : total ≤ place * 2 ^ 32

pub none_yet : (first : ℕ) (row : List Entry) (segments : List Segment) (orders : List Order) (rates : List ℕ) → IsSoFar first row segments orders rates 0 0 segments
none_yet first row segments orders rates =
    let same : first + 0 ≡ first = omega arith in
    record {
      counted = omega arith;
      there = (subst (λ n. AreBefore n row segments orders) same, subst (λ n. AreBefore n row segments orders) (sym same));
      sum_is = omega arith;
      small = omega arith;
    }

module _ (first : ℕ) (row : List Entry) (segments : List Segment) (orders : List Order) (rates : List ℕ) (place total : ℕ) (left : List Segment) (so_far : IsSoFar first row segments orders rates place total left) where
  -- the remaining segments, written in another way
  pub left_as : (other : List Segment) → left ≡ other → IsSoFar first row segments orders rates place total other
  left_as other same = subst (λ xs. IsSoFar first row segments orders rates place total xs) same so_far

  -- place and total, written in another way
  pub numbers_as : (other_place other_total : ℕ) → other_place ≡ place → other_total ≡ total → IsSoFar first row segments orders rates other_place other_total left
  numbers_as other_place other_total same_place same_total =
      subst (λ n. IsSoFar first row segments orders rates n other_total left) (sym same_place)
      (subst (λ n. IsSoFar first row segments orders rates place n left) (sym same_total) so_far)

  module _ (s : Segment) (rest : List Segment) (next : left ≡ s ∷ rest) where
    here : place < length orders → AreBefore (first + place) row (s ∷ rest) (get_or orders place no_order ∷ drop (place + 1) orders) ↔ AreBefore first row segments orders
    here within =
        subst (λ os. AreBefore (first + place) row (s ∷ rest) os ↔ AreBefore first row segments orders) (drop_more orders place no_order within)
        (subst (λ xs. AreBefore (first + place) row xs (drop place orders) ↔ AreBefore first row segments orders) next so_far.there)

    -- one order more
    pub one_more : (rate : ℕ) → place < length orders → place < length rates → rate < 2 ^ 32 → rate ≡ get_or rates place 0 → IsOrderOf (first + place) row s (get_or orders place no_order)
        → IsSoFar first row segments orders rates (place + 1) (total + rate) rest
    one_more rate within rated small is order =
        let number : first + place + 1 ≡ first + (place + 1) = omega arith in
        let sums : sum (take (length left) (drop place rates)) ≡ rate + sum (take (length rest) (drop (place + 1) rates)) =
        ap (λ xs. sum (take (length xs) (drop place rates))) next ∙ ap (λ ys. sum (take (suc (length rest)) ys)) (drop_more rates place 0 rated)
        ∙ sum_by-cons (λ (x : ℕ). x) (get_or rates place 0) (take (length rest) (drop (place + 1) rates)) ∙ ap (λ x. x + sum (take (length rest) (drop (place + 1) rates))) (sym is) in
        record {
          counted = omega (arith, so_far.counted, ap length next);
          there = (
            (λ stand. (here within).0 (order, subst (λ n. AreBefore n row rest (drop (place + 1) orders)) (sym number) stand)),
            (λ all. subst (λ n. AreBefore n row rest (drop (place + 1) orders)) number ((here within).1 all).1),
          );
          sum_is = omega (arith, so_far.sum_is, sums);
          small = omega (arith, so_far.small, small);
        }

    -- there is a place for the next order
    pub has_place : place < length segments
    has_place = omega (arith, so_far.counted, ap length next)

    -- the next order is another one
    pub another : place < length orders → (¬ IsOrderOf (first + place) row s (get_or orders place no_order)) → ¬ AreBefore first row segments orders
    another within other all = other ((here within).1 all).0

  -- all were found
  pub all_found : left ≡ [] → AreBefore first row segments orders × (total ≡ sum (take (length segments) rates))
  all_found none = (
    so_far.there.0 (subst (λ xs. AreBefore (first + place) row xs (drop place orders)) (sym none) tt),
    omega (arith, so_far.sum_is, ap (λ xs. sum (take (length xs) (drop place rates))) none),
  )

-- there are no fewer orders than segments
pub enough : (segments : List Segment) (number : ℕ) (row : List Entry) (orders : List Order) → AreBefore number row segments orders → length segments ≤ length orders
enough [] number row orders stand = omega arith
enough (s ∷ segments) number row [] stand = absurd stand
enough (s ∷ segments) number row (o ∷ os) stand = omega (arith, enough segments (number + 1) row os stand.1)

-- ---- from orders that are there to first orders
-- an element of a list is the first one or a later one
pub contains_cases : (o : Order) (os : List Order) (x : Order) → Contains (o ∷ os) x → (o ≡ x) ⊎ Contains os x
contains_cases o os x (zero, within, is) = inl is
contains_cases o os x (suc k, within, is) = inr (k, omega (arith, within), is)

pub contains_later : (o : Order) (os : List Order) (x : Order) → Contains os x → Contains (o ∷ os) x
contains_later o os x (k, within, is) = (suc k, omega (arith, within), is)

-- no number is below this one
abbrev pub AreFrom : ℕ → List Order → Type 0
AreFrom number orders = (o : Order) → Contains orders o → number ≤ o.number

pub ascending_tail : (o : Order) (os : List Order) → AreAscending (o ∷ os) → AreAscending os
ascending_tail o os ascending i j d before within = ascending (suc i) (suc j) d (omega (arith, before)) (omega (arith, within))

-- what follows the first order has higher numbers
later_from : (o : Order) (os : List Order) → AreAscending (o ∷ os) → AreFrom (o.number + 1) os
later_from o os ascending x (k, within, is) =
    let above : o.number < (get_or os k x).number = ascending 0 (suc k) x (omega arith) (omega (arith, within)) in
    omega (arith, above, ap (λ (y : Order). y.number) is)

pub stand_where_there : (segments : List Segment) (number : ℕ) (row : List Entry) (orders : List Order) → AreAscending orders → AreFrom number orders → AreThere segments number orders row → AreBefore number row segments orders
stand_where_there [] number row orders ascending from there = tt
stand_where_there (s ∷ segments) number row [] ascending from there =
    let first = there 0 (omega arith) s in
    absurd (omega (arith, first.1.1))
stand_where_there (s ∷ segments) number row (o ∷ os) ascending from there =
    (head, stand_where_there segments (number + 1) row os (ascending_tail o os ascending) after following)
  where
    head : IsOrderOf number row s o
    head =
        let first = there 0 (omega arith) s in
        let same : number + 0 ≡ number = omega arith in
        let order : IsOrderOf number row s first.0 = subst (λ n. IsOrderOf n row s first.0) same first.2 in
        ⊎_elim
        (λ is. subst (IsOrderOf number row s) (sym is) order)
        (λ later. absurd (omega (arith, later_from o os ascending first.0 later, from o (0, omega arith, refl), order.number_is)))
        (contains_cases o os first.0 first.1)

    after : AreFrom (number + 1) os
    after x inside = omega (arith, later_from o os ascending x inside, head.number_is)

    following : AreThere segments (number + 1) os row
    following k within d =
        let has = there (suc k) (omega (arith, within)) d in
        let same : number + suc k ≡ number + 1 + k = omega arith in
        let order : IsOrderOf (number + 1 + k) row (get_or segments k d) has.0 = subst (λ n. IsOrderOf n row (get_or segments k d) has.0) same has.2 in (
          has.0,
          ⊎_elim
              (λ is. absurd (omega (arith, order.number_is, head.number_is, ap (λ (y : Order). y.number) is)))
              (λ later. later)
              (contains_cases o os has.0 has.1),
          order,
        )

-- first orders are there
pub there_where_stand : (segments : List Segment) (number : ℕ) (row : List Entry) (orders all : List Order) → ((o : Order) → Contains orders o → Contains all o) → AreBefore number row segments orders → AreThere segments number all row
there_where_stand [] number row orders all inside stand = λ k within d. absurd (omega (arith, within))
there_where_stand (s ∷ segments) number row [] all inside stand = absurd stand
there_where_stand (s ∷ segments) number row (o ∷ os) all inside stand =
    each (there_where_stand segments (number + 1) row os all (λ x later. inside x (contains_later o os x later)) stand.1)
  where
    each : AreThere segments (number + 1) all row → AreThere (s ∷ segments) number all row
    each later zero within d =
        let same : number ≡ number + 0 = omega arith in
        (o, inside o (0, omega arith, refl), subst (λ n. IsOrderOf n row s o) same stand.0)
    each later (suc k) within d =
        let same : number + 1 + k ≡ number + suc k = omega arith in
        let has = later k (omega (arith, within)) d in
        (has.0, has.1, subst (λ n. IsOrderOf n row (get_or segments k d) has.0) same has.2)

-- ---- what they trade
-- the rate of an order if its number counts, else 0
abbrev counted : ℕ → ℕ → Trade → ℕ
counted first end t = cond (nat_le first t.order.number && nat_lt t.order.number end) t.traded 0

counts : (first end : ℕ) (t : Trade) → first ≤ t.order.number → t.order.number < end → counted first end t ≡ t.traded
counts first end t from below = rw (le-leb first t.order.number from, lt-ltb t.order.number end below) refl

is_before : (first end : ℕ) (t : Trade) → t.order.number < first → counted first end t ≡ 0
is_before first end t before = rw (lt-leb first t.order.number before) refl

is_after : (first end : ℕ) (t : Trade) → end ≤ t.order.number → counted first end t ≡ 0
is_after first end t after = rw (le-ltb t.order.number end after) (cond_and_false (nat_le first t.order.number) t.traded)
  where
    cond_and_false : (b : Bool) (x : ℕ) → cond (b && false) x 0 ≡ 0
    cond_and_false true x = refl
    cond_and_false false x = refl

traded-cons : (first end : ℕ) (t : Trade) (ts : List Trade) → traded_from first end (t ∷ ts) ≡ counted first end t + traded_from first end ts
traded-cons first end t ts = sum_by-cons (counted first end) t ts

none_after : (first end : ℕ) (orders : List Order) (rates : List ℕ) → AreFrom end orders → traded_from first end (trades orders rates) ≡ 0
none_after first end [] rates from = refl
none_after first end (o ∷ os) [] from = refl
none_after first end (o ∷ os) (x ∷ xs) from =
    let t : Trade = record { order = o; traded = x } in
    let here = is_after first end t (from o (0, omega arith, refl)) in
    let later = none_after first end os xs (λ y inside. from y (contains_later o os y inside)) in
    omega (arith, traded-cons first end t (trades os xs), here, later)

-- orders with lower numbers count for nothing
pub skip_before : (first end place : ℕ) (orders : List Order) (rates : List ℕ) → ((k : ℕ) (d : Order) → k < place → k < length orders → (get_or orders k d).number < first)
    → traded_from first end (trades orders rates) ≡ traded_from first end (trades (drop place orders) (drop place rates))
skip_before first end zero orders rates before = refl
skip_before first end (suc place) [] rates before = refl
skip_before first end (suc place) (o ∷ os) [] before = sym (no_rates (drop place os))
  where
    no_rates : (os : List Order) → traded_from first end (trades os []) ≡ 0
    no_rates [] = refl
    no_rates (o ∷ os) = refl
skip_before first end (suc place) (o ∷ os) (x ∷ xs) before =
    let t : Trade = record { order = o; traded = x } in
    let here = is_before first end t (before 0 o (omega arith) (omega arith)) in
    let later = skip_before first end place os xs (λ k d below within. before (suc k) d (omega (arith, below)) (omega (arith, within))) in
    omega (arith, traded-cons first end t (trades os xs), here, later)

-- the first orders count, and no others
pub sum_in_front : (segments : List Segment) (first end number : ℕ) (row : List Entry) (orders : List Order) (rates : List ℕ) → first ≤ number → number + length segments ≡ end → length rates ≡ length orders
    → AreAscending orders → AreFrom number orders → AreBefore number row segments orders → traded_from first end (trades orders rates) ≡ sum (take (length segments) rates)
sum_in_front [] first end number row orders rates from to rated ascending least stand =
    none_after first end orders rates (λ o inside. omega (arith, to, least o inside))
sum_in_front (s ∷ segments) first end number row [] rates from to rated ascending least stand = absurd stand
sum_in_front (s ∷ segments) first end number row (o ∷ os) [] from to rated ascending least stand = absurd (omega (arith, rated))
sum_in_front (s ∷ segments) first end number row (o ∷ os) (x ∷ xs) from to rated ascending least stand =
    let t : Trade = record { order = o; traded = x } in
    let here = counts first end t (omega (arith, stand.0.number_is, from)) (omega (arith, stand.0.number_is, to)) in
    let later = sum_in_front segments first end (number + 1) row os xs (omega (arith, from)) (omega (arith, to)) (omega (arith, rated)) (ascending_tail o os ascending)
    (λ y inside. omega (arith, later_from o os ascending y inside, stand.0.number_is)) stand.1 in
    omega (arith, traded-cons first end t (trades os xs), here, later, sum_by-cons (λ (n : ℕ). n) x (take (length segments) xs))

-- ascending numbers don't fall
pub numbers_rise : (orders : List Order) → AreAscending orders → IsNonDecreasingBy (λ (o : Order). o.number) orders
numbers_rise orders ascending i j d le inside =
    ⊎_elim
    (λ before. let less : (get_or orders i d).number < (get_or orders j d).number = ascending i j d before inside in omega (arith, less))
    (λ same. let is : i ≡ j = omega (arith, le, same) in omega (arith, ap (λ k. (get_or orders k d).number) is))
    (cases_lt i j)
