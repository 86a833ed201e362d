-- What the orders of a column ask for as the price of its asset rises or falls.
use Rattle.std.proofs.Common.{◌≡◌, ℕ, zero, suc, ◌^◌, ◌≤◌, ◌<◌, ℤ, pos, negsuc, ◌+ℤ◌, ◌-ℤ◌, ◌*ℤ◌, ◌≤ℤ◌, List, [], ◌∷◌, length, refl, ap, sym, ◌∙◌, arith}
use Rattle.std.specs.Prelude.{All, neg_ℤ}
use Rattle.std.proofs.Math.IntN.{negsuc-*ℤ-pos, pos-*ℤ-pos, *ℤ-negsuc}
use Rattle.std.proofs.lemmas.Int.{ints}
use Rattle.list_sums.specs.Sums.{int_sum_by}
use Rattle.weight_rows.specs.Rows.{price_of, IsPrice}
use Rattle.demand_curve.specs.Demand.{Terms}
use Rattle.flow_orders.specs.Orders.{Order}
use Rattle.flow_orders.specs.Excess.{low_part_in, high_part_in, low_excess_in, high_excess_in}
use Rattle.flow_orders.specs.Moves.{risen, fallen}
use Rattle.excess_bounds.specs.declared.columns.Cell.{Cell}
use Rattle.excess_bounds.specs.declared.directions.Direction.{Direction}
use Rattle.excess_bounds.specs.declared.directions.Direction.TheVariants.{Rise, Fall}
use Rattle.excess_bounds.specs.Columns.{column_of}
use Rattle.excess_bounds.specs.Directions.{asked_towards, price_towards}
use Rattle.excess_bounds.specs.Quotes.{Quote}
use Rattle.excess_bounds.specs.Private.{quote_in, low_after, high_after, IsKept}
use Rattle.excess_bounds.specs.Steps.{asked_after, turned, CanMove}
use Rattle.excess_bounds.proofs.Kept.{own_in_range, stay_in_range, low_is, high_is}

neg_times : (w : ℤ) (n : ℕ) → neg_ℤ w *ℤ pos n ≡ neg_ℤ (w *ℤ pos n)
neg_times (pos zero) n = omega (arith, ints)
neg_times (pos (suc a)) n = negsuc-*ℤ-pos a n ∙ ap neg_ℤ (sym (pos-*ℤ-pos (suc a) n))
neg_times (negsuc a) n = omega (arith, ints, pos-*ℤ-pos (suc a) n, negsuc-*ℤ-pos a n)

-- a fall moves an order's price as a rise does under the opposite weight
neg_moved : (w : ℤ) (m : ℕ) → neg_ℤ w *ℤ pos m ≡ w *ℤ neg_ℤ (pos m)
neg_moved w zero = omega (arith, ints)
neg_moved w (suc k) = neg_times w (suc k) ∙ sym (*ℤ-negsuc w k)

turned_part : (parts : ℕ) (w : ℤ) (t : Terms) (c : ℤ) → low_part_in parts (neg_ℤ w) t c ≡ neg_ℤ (high_part_in parts w t c)
turned_part parts (pos zero) t c = omega (arith, ints)
turned_part parts (pos (suc n)) t c = refl
turned_part parts (negsuc n) t c = omega (arith, ints)

asked_turned : (parts : ℕ) (quotes : List Quote) (m : ℕ) (cells : List Cell) → asked_after parts quotes Fall cells m ≡ neg_ℤ (int_sum_by (high_after parts quotes (neg_ℤ (pos m))) cells)
asked_turned parts quotes m [] = refl
asked_turned parts quotes m (c ∷ cells) =
    let q = quote_in quotes c.place in
    let here : low_after parts quotes (pos m) (turned Fall c) ≡ neg_ℤ (high_after parts quotes (neg_ℤ (pos m)) c) = rw (neg_moved c.weight m) (turned_part parts c.weight q.terms (q.price +ℤ c.weight *ℤ neg_ℤ (pos m))) in
    omega (arith, ints, here, asked_turned parts quotes m cells)

module _ (orders : List Order) (prices : List ℤ) (quotes : List Quote) (columns : List (List Cell)) (kept : IsKept orders prices quotes columns) (asset : ℕ) (there : asset < length prices) (reach : ℕ) where
  own : IsPrice (price_of prices asset)
  own = own_in_range orders prices quotes columns kept asset there

  module _ (room : (price_of prices asset +ℤ pos reach) ≤ℤ pos (2 ^ 62)) where
    risen_in_range : (m : ℕ) → m ≤ reach → IsPrice (price_of prices asset +ℤ pos m)
    risen_in_range m within = omega (arith, ints, own, room, within)

    risen_by : (m : ℕ) → pos m ≡ price_of prices asset +ℤ pos m -ℤ price_of prices asset
    risen_by m = omega (arith, ints)

    can_rise : All (CanMove quotes Rise reach) (column_of orders asset)
    can_rise k d inside m within = stay_in_range orders prices quotes columns kept asset there (price_of prices asset +ℤ pos m) (pos m) (risen_in_range m within) (risen_by m) k d inside

    asked_risen : (parts m : ℕ) → m ≤ reach → asked_after parts quotes Rise (column_of orders asset) m ≡ low_excess_in parts orders (risen prices asset m) asset
    asked_risen parts m within = low_is orders prices quotes columns kept asset there (price_of prices asset +ℤ pos m) (pos m) (risen_in_range m within) (risen_by m) parts

  module _ (room : neg_ℤ (pos (2 ^ 62)) ≤ℤ (price_of prices asset -ℤ pos reach)) where
    fallen_in_range : (m : ℕ) → m ≤ reach → IsPrice (price_of prices asset -ℤ pos m)
    fallen_in_range m within = omega (arith, ints, own, room, within)

    fallen_by : (m : ℕ) → neg_ℤ (pos m) ≡ price_of prices asset -ℤ pos m -ℤ price_of prices asset
    fallen_by m = omega (arith, ints)

    can_fall : All (CanMove quotes Fall reach) (column_of orders asset)
    can_fall k d inside m within =
        let stays = stay_in_range orders prices quotes columns kept asset there (price_of prices asset -ℤ pos m) (neg_ℤ (pos m)) (fallen_in_range m within) (fallen_by m) k d inside in
        rw neg_moved stays

    asked_fallen : (parts m : ℕ) → m ≤ reach → asked_after parts quotes Fall (column_of orders asset) m ≡ neg_ℤ (high_excess_in parts orders (fallen prices asset m) asset)
    asked_fallen parts m within =
        asked_turned parts quotes m (column_of orders asset)
        ∙ ap neg_ℤ (high_is orders prices quotes columns kept asset there (price_of prices asset -ℤ pos m) (neg_ℤ (pos m)) (fallen_in_range m within) (fallen_by m) parts)

  -- the orders of the column stay in range on a move
  pub can_move : (direction : Direction) → IsPrice (price_towards direction (price_of prices asset) reach) → All (CanMove quotes direction reach) (column_of orders asset)
  can_move Rise room = can_rise (omega (arith, ints, room))
  can_move Fall room = can_fall (omega (arith, ints, room))

  -- what the orders of the column ask for is what is asked for at the moved price
  pub asked_moved : (direction : Direction) → IsPrice (price_towards direction (price_of prices asset) reach) → (parts m : ℕ) → m ≤ reach
      → asked_after parts quotes direction (column_of orders asset) m ≡ asked_towards direction parts orders prices asset m
  asked_moved Rise room = asked_risen (omega (arith, ints, room))
  asked_moved Fall room = asked_fallen (omega (arith, ints, room))
