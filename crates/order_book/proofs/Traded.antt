-- What trades do to the needs of their orders, and what stays after them.
use Rattle.std.proofs.Common.{◌≡◌, ℕ, zero, suc, ◌+◌, ◌*◌, ◌<◌, ◌≤◌, Bool, true, false, cond, eqb, filter, List, [], ◌∷◌, length, get_or, refl, ap, ⊎_elim, arith}
use Rattle.std.specs.Prelude.{All, slice_index_or}
use Rattle.std.proofs.lemmas.Bool.{cases_Bool, ltb-true, ltb-false}
use Rattle.std.proofs.lemmas.List.Sums.{sum_by-cons, length-filter, count_by-le-length}
use Rattle.std.proofs.lemmas.List.Elements.{All-map, All-filter, filter_passes}
use Rattle.std.proofs.lemmas.List.Kept.{AllPairs-filter}
use Rattle.weight_rows.specs.Rows.{weight_in}
use Rattle.demand_curve.specs.Numbers.{or_zero}
use Rattle.flow_orders.specs.Orders.{Order, IsOrder, remaining_quantity, sold}
use Rattle.flow_orders.specs.Trades.{Trade, trades, after_fill, staying}
use Rattle.flow_orders.proofs.TradeFacts.{before_fills, after_fills, is_live}
use Rattle.order_book.specs.declared.sums.Need.{Need}
use Rattle.order_book.specs.declared.sums.Need.TheVariants.{Money, Units}
use Rattle.order_book.specs.Needs.{need_for, need_of, needed, needed_for}
use Rattle.order_book.specs.Book.{AreLive}

-- ---- trades by their places
pub length-trades : (orders : List Order) (rates : List ℕ) → length rates ≡ length orders → length (trades orders rates) ≡ length orders
length-trades [] rates count = refl
length-trades (o ∷ orders) [] count = absurd (omega (arith, count))
length-trades (o ∷ orders) (x ∷ rates) count = omega (arith, length-trades orders rates (omega (arith, count)))

pub get_or-trades : (orders : List Order) (rates : List ℕ) (i : ℕ) (d : Trade) (o : Order) (x : ℕ) → length rates ≡ length orders → i < length orders
    → get_or (trades orders rates) i d ≡ record { order = get_or orders i o; traded = get_or rates i x }
get_or-trades [] rates i d o x count inside = absurd (omega (arith, inside))
get_or-trades (e ∷ orders) [] i d o x count inside = absurd (omega (arith, count))
get_or-trades (e ∷ orders) (y ∷ rates) zero d o x count inside = refl
get_or-trades (e ∷ orders) (y ∷ rates) (suc i) d o x count inside = get_or-trades orders rates i d o x (omega (arith, count)) (omega (arith, inside))

-- ---- needs
split_need : (own : Bool) (each left now x : ℕ) → left ≡ now + x → cond own (each * left) 0 ≡ cond own (each * now) 0 + cond own (each * x) 0
split_need true each left now x parts = omega (arith, ap (λ n. each * n) parts)
split_need false each left now x parts = refl

-- an order needs after its fill what it needed before, less what it needed for the trade
pub need-after : (need : Need) (t : Trade) → t.traded ≤ remaining_quantity t.order → need_of need t.order ≡ need_of need (after_fill t) + need_for t.traded need t.order
need-after (Money account) t within =
    split_need (eqb t.order.account account) (or_zero t.order.high) (remaining_quantity t.order) (remaining_quantity (after_fill t)) t.traded (omega (arith, within))
need-after (Units account asset) t within =
    split_need (eqb t.order.account account) (sold (weight_in t.order.row asset)) (remaining_quantity t.order) (remaining_quantity (after_fill t)) t.traded (omega (arith, within))

pub needed-after : (need : Need) (ts : List Trade) → All (λ t. t.traded ≤ remaining_quantity t.order) ts → needed need (before_fills ts) ≡ needed need (after_fills ts) + needed_for need ts
needed-after need [] within = refl
needed-after need (t ∷ ts) within =
    omega (
      arith,
      need-after need t (within 0 t (omega arith)),
      needed-after need ts (λ k d inside. within (suc k) d (omega (arith, inside))),
      sum_by-cons (need_of need) t.order (before_fills ts),
      sum_by-cons (need_of need) (after_fill t) (after_fills ts),
      sum_by-cons (λ (u : Trade). need_for u.traded need u.order) t ts,
    )

none_left : (own : Bool) (each left : ℕ) → left ≡ 0 → cond own (each * left) 0 ≡ 0
none_left true each left none = omega (arith, ap (λ n. each * n) none)
none_left false each left none = refl

-- an order at its cap needs nothing
full_needs_none : (need : Need) (o : Order) → is_live o ≡ false → need_of need o ≡ 0
full_needs_none (Money account) o full = none_left (eqb o.account account) (or_zero o.high) (remaining_quantity o) (omega (arith, ltb-false o.filled o.cap full))
full_needs_none (Units account asset) o full = none_left (eqb o.account account) (sold (weight_in o.row asset)) (remaining_quantity o) (omega (arith, ltb-false o.filled o.cap full))

pub needed-live : (need : Need) (orders : List Order) → needed need (filter is_live orders) ≡ needed need orders
needed-live need [] = refl
needed-live need (o ∷ orders) =
    ⊎_elim
    (λ kept. rw kept (omega (arith, needed-live need orders, sum_by-cons (need_of need) o (filter is_live orders), sum_by-cons (need_of need) o orders)))
    (λ full. rw full (omega (arith, needed-live need orders, full_needs_none need o full, sum_by-cons (need_of need) o orders)))
    (cases_Bool (is_live o))

-- ---- the orders that stay
-- an order that isn't filled to its cap is within the limits
pub IsOrder-after : (t : Trade) → IsOrder t.order → is_live (after_fill t) ≡ true → IsOrder (after_fill t)
IsOrder-after t is live =
    let below : t.order.filled + t.traded < t.order.cap = ltb-true (t.order.filled + t.traded) t.order.cap live in
    record {
      terms = record {
        low_in_range = is.terms.low_in_range;
        high_in_range = is.terms.high_in_range;
        span_least = is.terms.span_least;
        room_least = omega (arith, below, is.terms.room_least, is.terms.room_most);
        room_most = omega arith;
        rate_most = is.terms.rate_most;
      };
      ticks = is.ticks;
      cap = is.cap;
      left = below;
      row = is.row;
    }

-- what holds of each order holds of each trade's order
each_order : (P : Order → Type 0) (ts : List Trade) → All P (before_fills ts) → All (λ t. P t.order) ts
each_order P [] all k d inside = absurd (omega (arith, inside))
each_order P (t ∷ ts) all zero d inside = all 0 t.order (omega arith)
each_order P (t ∷ ts) all (suc k) d inside = each_order P ts (λ j e within. all (suc j) e (omega (arith, within))) k d (omega (arith, inside))

numbers_same : (ts : List Trade) (i : ℕ) (d : Order) → (get_or (after_fills ts) i d).number ≡ (get_or (before_fills ts) i d).number
numbers_same [] i d = refl
numbers_same (t ∷ ts) zero d = refl
numbers_same (t ∷ ts) (suc i) d = numbers_same ts i d

same_count : (ts : List Trade) → length (after_fills ts) ≡ length (before_fills ts)
same_count [] = refl
same_count (t ∷ ts) = omega (arith, same_count ts)

pub length-staying : (ts : List Trade) → length (staying ts) ≤ length (before_fills ts)
length-staying ts = omega (arith, length-filter is_live (after_fills ts), count_by-le-length is_live (after_fills ts), same_count ts)

-- if the orders of trades are live, those that stay are live orders
pub AreLive-staying : (ts : List Trade) → AreLive (before_fills ts) → AreLive (staying ts)
AreLive-staying ts live =
    let consistent = each_order IsOrder ts live.each in
    let filled = All-map (λ o. is_live o ≡ true → IsOrder o) after_fill ts (λ k d inside. IsOrder-after (slice_index_or ts k d) (consistent k d inside)) in
    record {
      each = λ k d inside. All-filter is_live (λ o. is_live o ≡ true → IsOrder o) (after_fills ts) filled k d inside (filter_passes is_live (after_fills ts) k d inside);
      ascending = AllPairs-filter (λ (o : Order) (later : Order). o.number < later.number) is_live (after_fills ts) (λ i j d before inside.
          omega (arith, numbers_same ts i d, numbers_same ts j d, live.ascending i j d before (omega (arith, inside, same_count ts))));
      few = omega (arith, length-staying ts, live.few);
    }
