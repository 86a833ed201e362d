-- What own orders pay and receive, order by order.
use Rattle.std.proofs.Common.{◌≡◌, ℕ, ◌+◌, ◌*◌, ◌^◌, ◌<◌, ◌≤◌, ℤ, pos, ◌+ℤ◌, List, ◌++◌, length, take, get_or, to_z, of_z, refl, sym, ap, ◌∙◌, ⊎_elim, arith}
use Rattle.std.specs.Prelude.{unsigned_abs, FitsSigned}
use mir.Syntax.{w128}
use Rattle.std.specs.List.{flat_map}
use Rattle.std.proofs.lemmas.Int.{ints, to_z-of_z, fits_signed_from_abs}
use Rattle.std.proofs.lemmas.Bool.{cases_lt}
use Rattle.std.proofs.lemmas.List.{take_all, get_or_past}
use Rattle.list_sums.specs.Sums.{int_sum_by}
use Rattle.list_sums.proofs.Products.{unsigned_abs-add, unsigned_abs-mul_le}
use Rattle.list_sums.proofs.SumLemmas.{int_sum_by_more}
use Rattle.weight_rows.specs.Rows.{IsWeightVector, weight_in, price_of}
use Rattle.weight_rows.proofs.RowLawProofs.{weights_are_small}
use Rattle.demand_curve.specs.Demand.{most_rate}
use Rattle.flow_orders.specs.Orders.{Order, IsOrder, most_orders, terms_of}
use Rattle.flow_orders.specs.Trades.{Trade, trades, paid, received, residual}
use Rattle.flow_orders.specs.Outcomes.{residuals_of}
use Rattle.flow_orders.specs.Residuals.{AreNear, HasEach, AreZeros, IsTradeAdded}
use Rattle.flow_orders.proofs.Limits.{orders_fit}
use Rattle.batch_certificate.proofs.Sums.{IsTurn, length-trades, trade_at, each_is}
use Rattle.pair_text.proofs.Joining.{one_more}
use Rattle.statement_rules.specs.Statements.{cost_line}

-- the first i orders have their lines, and this is what they pay
pub record HasCosts (prices : List ℤ) (ts : List Trade) (i : ℕ) (old now : List ℕ) (sum : ℤ) : Type 0 where
  pub text : now ≡ old ++ flat_map (cost_line prices) (take i ts)
  pub sum_is : sum ≡ int_sum_by (paid prices) (take i ts)
  pub small : unsigned_abs sum ≤ i * 2 ^ 110

-- what the code has after one more order: its sum in 128 bits fits, and is the sum of one more
pub record HasOneMore (prices : List ℤ) (ts : List Trade) (i : ℕ) (old now : List ℕ) (sum part : ℤ) : Type 0 where
  pub fits : FitsSigned w128 (sum +ℤ to_z w128 (of_z w128 part))
  pub next : HasCosts prices ts (i + 1) old now (to_z w128 (of_z w128 (sum +ℤ to_z w128 (of_z w128 part))))

pub one_more_cost : (prices : List ℤ) (orders : List Order) (rates : List ℕ) (i : ℕ) (o : Order) (x : ℕ) (old one two : List ℕ) (sum part : ℤ)
    → IsTurn orders rates i o x → length orders ≤ most_orders → HasCosts prices (trades orders rates) i old one sum
    → two ≡ one ++ cost_line prices (record { order = o; traded = x }) → part ≡ paid prices (record { order = o; traded = x }) → unsigned_abs part ≤ 2 ^ 110
    → HasOneMore prices (trades orders rates) i old two sum part
one_more_cost prices orders rates i o x old one two sum part turn few before line is small =
    let ts = trades orders rates in
    let t : Trade = record { order = o; traded = x } in
    let there : i < length ts = omega (arith, turn.inside, length-trades orders rates turn.count) in
    let here : get_or ts i t ≡ t = trade_at orders rates i o x turn in
    let bound : unsigned_abs (sum +ℤ part) ≤ (i + 1) * 2 ^ 110 = omega (arith, unsigned_abs-add sum part, before.small, small) in
    let part_fits : FitsSigned w128 part = fits_signed_from_abs w128 part (omega (arith, small)) in
    let sum_fits : FitsSigned w128 (sum +ℤ part) = fits_signed_from_abs w128 (sum +ℤ part) (omega (arith, bound, few, orders_fit, turn.inside)) in
    let kept : to_z w128 (of_z w128 (sum +ℤ to_z w128 (of_z w128 part))) ≡ sum +ℤ part = rw (to_z-of_z w128 part part_fits) (to_z-of_z w128 (sum +ℤ part) sum_fits) in
    record {
      fits = rw (to_z-of_z w128 part part_fits) sum_fits;
      next = record {
        text = one_more (cost_line prices) old ts i t one two there before.text (line ∙ ap (λ u. one ++ cost_line prices u) (sym here));
        sum_is =
            let more : int_sum_by (paid prices) (take (i + 1) ts) ≡ int_sum_by (paid prices) (take i ts) +ℤ paid prices t = int_sum_by_more (paid prices) ts i t there ∙ ap (λ u. int_sum_by (paid prices) (take i ts) +ℤ paid prices u) here in
            kept ∙ omega (arith, ints, more, before.sum_is, is);
        small = rw kept bound;
      };
    }

-- the first i trades were brought
pub record AreBrought (n : ℕ) (ts : List Trade) (i : ℕ) (units : List ℤ) : Type 0 where
  pub left : HasEach n (residual (take i ts)) units
  pub near : AreNear (i * 2 ^ 36) units

pub none_brought : (n : ℕ) (ts : List Trade) (units : List ℤ) → AreZeros n units → AreBrought n ts 0 units
none_brought n ts units zeros = record {
  left = record { count = zeros.count; each = zeros.each };
  near = λ a.
      ⊎_elim
      (λ inside. rw (zeros.each a (omega (arith, inside, zeros.count))) (omega arith))
      (λ past. rw (get_or_past units a (pos 0) past) (omega arith))
      (cases_lt a (length units));
}

received_small : (t : Trade) (asset : ℕ) → IsWeightVector t.order.row → t.traded ≤ most_rate → unsigned_abs (received asset t) ≤ 2 ^ 36
received_small t asset lawful slow =
    omega (arith, unsigned_abs-mul_le (weight_in t.order.row asset) (pos t.traded) 4096 (2 ^ 24) (weights_are_small t.order.row asset lawful) slow)

-- a rate within an order's batch maximum is within the highest rate
pub slow_enough : (o : Order) (x : ℕ) → IsOrder o → x ≤ (terms_of o).room → x ≤ most_rate
slow_enough o x order within = omega (arith, within, order.terms.room_most, order.terms.rate_most)

pub one_more_brought : (n : ℕ) (orders : List Order) (rates : List ℕ) (i : ℕ) (o : Order) (x : ℕ) (now new : List ℤ)
    → IsTurn orders rates i o x → AreBrought n (trades orders rates) i now → IsTradeAdded o.row x now new → IsWeightVector o.row → x ≤ most_rate → AreBrought n (trades orders rates) (i + 1) new
one_more_brought n orders rates i o x now new turn before added lawful slow =
    let ts = trades orders rates in
    let t : Trade = record { order = o; traded = x } in
    let there : i < length ts = omega (arith, turn.inside, length-trades orders rates turn.count) in
    let here : get_or ts i t ≡ t = trade_at orders rates i o x turn in
    let count : length new ≡ n = added.count ∙ before.left.count in
    let grown : (a : ℕ) → a < n → price_of new a ≡ price_of now a +ℤ received a t = λ a inside. added.each a (omega (arith, inside, before.left.count)) in
    record {
      left = record {
        count = count;
        each = λ a inside.
            let more : residual (take (i + 1) ts) a ≡ residual (take i ts) a +ℤ received a t = int_sum_by_more (received a) ts i t there ∙ ap (λ u. residual (take i ts) a +ℤ received a u) here in
            rw (grown a inside, before.left.each a inside, more) refl;
      };
      near = λ a.
          ⊎_elim
          (λ inside. rw (grown a inside) (omega (arith, unsigned_abs-add (price_of now a) (received a t), before.near a, received_small t a lawful slow)))
          (λ past. rw (get_or_past new a (pos 0) (omega (arith, past, count))) (omega arith))
          (cases_lt a n);
    }

pub all_brought : (n : ℕ) (orders : List Order) (rates : List ℕ) (i : ℕ) (units : List ℤ) → length rates ≡ length orders → length orders ≤ i
    → AreBrought n (trades orders rates) i units → units ≡ residuals_of n (trades orders rates)
all_brought n orders rates i units count all before =
    let whole : take i (trades orders rates) ≡ trades orders rates = take_all i (trades orders rates) (omega (arith, all, length-trades orders rates count)) in
    each_is n (residual (take i (trades orders rates))) units before.left ∙ ap (residuals_of n) whole
