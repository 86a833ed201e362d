-- The imbalances with all demands rounded down, order by order.
use Rattle.std.proofs.Common.{◌≡◌, ℕ, ◌+◌, ◌*◌, ◌^◌, ◌<◌, ◌≤◌, ℤ, pos, ◌+ℤ◌, ◌*ℤ◌, List, [], ◌∷◌, length, take, get_or, refl, sym, ap, ◌∙◌, ⊎_elim, arith}
use Rattle.std.specs.Prelude.{unsigned_abs}
use Rattle.std.proofs.lemmas.Bool.{cases_lt}
use Rattle.std.proofs.lemmas.List.{take_all, get_or_past}
use Rattle.list_sums.specs.Sums.{int_sum_by}
use Rattle.list_sums.proofs.Products.{unsigned_abs-add, unsigned_abs-mul_le}
use Rattle.list_sums.proofs.SumLemmas.{int_sum_by_more}
use Rattle.weight_rows.specs.Rows.{weight_in, price_of}
use Rattle.weight_rows.proofs.RowLawProofs.{weights_are_small}
use Rattle.demand_curve.specs.Demand.{most_rate}
use Rattle.demand_curve.proofs.RoundingLaws.{roundings_enclose_demand}
use Rattle.flow_orders.specs.Orders.{Order, IsOrder, most_orders, terms_of}
use Rattle.flow_orders.specs.Excess.{price_for}
use Rattle.flow_orders.specs.Residuals.{AreNear, HasEach, AreZeros, IsTradeAdded}
use Rattle.flow_orders.proofs.Limits.{orders_fit}
use Rattle.canonical_rule.specs.Canonical.{floor_at}
use Rattle.rate_rounding.specs.Private.{left_by_floors}

-- a demand rounded down is at most the highest rate
pub floor_is_small : (prices : List ℤ) (o : Order) → IsOrder o → floor_at prices o ≤ most_rate
floor_is_small prices o order =
    let enclosed = roundings_enclose_demand (terms_of o) order.terms (price_for prices o) in
    omega (arith, enclosed.floor_first, enclosed.within_room, order.terms.room_most, order.terms.rate_most)

-- what an order brings of an asset at its demand rounded down
pub brought : List ℤ → ℕ → Order → ℤ
brought prices asset o = weight_in o.row asset *ℤ pos (floor_at prices o)

left_is_sum : (prices : List ℤ) (asset : ℕ) (orders : List Order) → left_by_floors orders prices asset ≡ int_sum_by (brought prices asset) orders
unfolding brought
left_is_sum prices asset [] = refl
left_is_sum prices asset (o ∷ orders) = ap (λ z. weight_in o.row asset *ℤ pos (floor_at prices o) +ℤ z) (left_is_sum prices asset orders)

brought_small : (prices : List ℤ) (asset : ℕ) (o : Order) → IsOrder o → unsigned_abs (brought prices asset o) ≤ 2 ^ 36
unfolding brought
brought_small prices asset o order =
    omega (arith, unsigned_abs-mul_le (weight_in o.row asset) (pos (floor_at prices o)) 4096 (2 ^ 24) (weights_are_small o.row asset order.row) (floor_is_small prices o order))

-- the imbalances of the first i orders
pub record AreLeft (n : ℕ) (prices : List ℤ) (orders : List Order) (i : ℕ) (residuals : List ℤ) : Type 0 where
  pub left : HasEach n (λ asset. int_sum_by (brought prices asset) (take i orders)) residuals
  pub near : AreNear (i * 2 ^ 36) residuals

pub none_left : (n : ℕ) (prices : List ℤ) (orders : List Order) (residuals : List ℤ) → AreZeros n residuals → AreLeft n prices orders 0 residuals
none_left n prices orders residuals zeros = record {
  left = record { count = zeros.count; each = zeros.each };
  near = λ a.
      ⊎_elim
      (λ inside. rw (zeros.each a (omega (arith, inside, zeros.count))) (omega arith))
      (λ past. rw (get_or_past residuals a (pos 0) past) (omega arith))
      (cases_lt a (length residuals));
}

pub one_more_left : (n : ℕ) (prices : List ℤ) (orders : List Order) (i : ℕ) (o : Order) (now new : List ℤ) → i < length orders → o ≡ get_or orders i o → IsOrder o
    → AreLeft n prices orders i now → IsTradeAdded o.row (floor_at prices o) now new → AreLeft n prices orders (i + 1) new
unfolding brought
one_more_left n prices orders i o now new inside here order before added =
    let count : length new ≡ n = added.count ∙ before.left.count in
    let grown : (a : ℕ) → a < n → price_of new a ≡ price_of now a +ℤ brought prices a o = λ a there. added.each a (omega (arith, there, before.left.count)) in
    record {
      left = record {
        count = count;
        each = λ a there.
            let more : int_sum_by (brought prices a) (take (i + 1) orders) ≡ int_sum_by (brought prices a) (take i orders) +ℤ brought prices a o =
            int_sum_by_more (brought prices a) orders i o inside ∙ ap (λ u. int_sum_by (brought prices a) (take i orders) +ℤ brought prices a u) (sym here) in
            rw (grown a there, before.left.each a there, more) refl;
      };
      near = λ a.
          ⊎_elim
          (λ there. rw (grown a there) (omega (arith, unsigned_abs-add (price_of now a) (brought prices a o), before.near a, brought_small prices a o order)))
          (λ past. rw (get_or_past new a (pos 0) (omega (arith, past, count))) (omega arith))
          (cases_lt a n);
    }

pub all_left : (n : ℕ) (prices : List ℤ) (orders : List Order) (i : ℕ) (residuals : List ℤ) → length orders ≤ most_orders → length orders ≤ i → i ≤ length orders → AreLeft n prices orders i residuals
    → HasEach n (left_by_floors orders prices) residuals × AreNear (2 ^ 50) residuals
all_left n prices orders i residuals few all most before =
    let whole : take i orders ≡ orders = take_all i orders all in (
      record { count = before.left.count; each = λ a there. before.left.each a there ∙ rw whole (rw (left_is_sum prices a orders) refl) },
      λ a. omega (arith, before.near a, few, most, orders_fit),
    )
