-- What the cells of a column ask for once the asset's price is a grain higher or lower, and what all orders then ask for.
use Rattle.std.proofs.Common.{◌≡◌, ℕ, ◌+◌, ◌*◌, ◌^◌, ◌≤◌, ◌<◌, inl, inr, ℤ, pos, ◌+ℤ◌, ◌-ℤ◌, ◌*ℤ◌, ◌≤ℤ◌, List, length, set, get_or, refl, ap, sym, ◌∙◌, arith}
use Rattle.std.specs.Prelude.{All, neg_ℤ, int_lt, unsigned_abs}
use Rattle.std.specs.Int.{int_max, int_min}
use Rattle.std.proofs.lemmas.Int.{ints}
use Rattle.std.proofs.lemmas.Bool.{cases_Bool}
use Rattle.std.proofs.lemmas.List.{get_or-map, length-map}
use Rattle.list_sums.specs.Sums.{int_sum_by}
use Rattle.weight_rows.specs.Rows.{most_weight, weight_in, price_of}
use Rattle.weight_rows.proofs.RowLawProofs.{price_follows_one_price, weights_are_small}
use Rattle.demand_curve.specs.Demand.{Terms, IsWithinLimits, floor_in, ceil_in}
use Rattle.demand_curve.proofs.Parts.{parts_of_none, parts_of_room}
use Rattle.flow_orders.specs.Orders.{Order, IsOrder, most_orders, terms_of}
use Rattle.flow_orders.specs.Excess.{price_for, low_part_in, high_part_in, low_excess_in, high_excess_in}
use Rattle.excess_bounds.specs.declared.columns.Cell.{Cell}
use Rattle.excess_bounds.specs.Columns.{column_of}
use Rattle.excess_bounds.specs.Quotes.{quote_at, quotes_at}
use Rattle.excess_bounds.specs.Workspace.{ArePriced}
use Rattle.excess_bounds.proofs.ColumnSums.{is_light, all_cells, column_length, column_sum}
use Rattle.even_prices.specs.Even.{even_parts}
use Rattle.even_prices.specs.Private.{quote_in, low_beside, high_beside}

module _ (orders : List Order) (prices : List ℤ) (priced : ArePriced orders prices) (asset : ℕ) where
  pub is_short : length (column_of orders asset) ≤ most_orders
  is_short = omega (arith, column_length asset 0 orders, priced.few)

  pub are_light : All (λ c. unsigned_abs c.weight ≤ most_weight) (column_of orders asset)
  are_light = all_cells asset is_light 0 orders (λ k o inside. weights_are_small (get_or orders k o).row asset (priced.each k o inside).row)

  pub are_there : All (λ (c : Cell). c.place < length (quotes_at orders prices)) (column_of orders asset)
  are_there =
      let count : length (quotes_at orders prices) ≡ length orders = length-map orders (quote_at prices) in
      all_cells asset (λ c. c.place < length (quotes_at orders prices)) 0 orders (λ k o inside. omega (arith, inside, count))

  module _ (within : asset < length prices) (grain : ℤ) where
    next : List ℤ
    next = set prices asset (price_of prices asset +ℤ grain)

    -- the price of an order's portfolio then
    price_then : (o : Order) → IsOrder o → price_for (set prices asset (price_of prices asset +ℤ grain)) o ≡ price_for prices o +ℤ weight_in o.row asset *ℤ grain
    price_then o h =
        let p = price_of prices asset in
        let moves : p +ℤ grain -ℤ p ≡ grain = omega (arith, ints) in
        rw moves at (price_follows_one_price o.row prices asset (p +ℤ grain) h.row within)

    sum_then : (part : ℤ → Terms → ℤ → ℤ) → ((t : Terms) (c : ℤ) → part (pos 0) t c ≡ pos 0)
        → int_sum_by (λ (c : Cell). part c.weight (quote_in (quotes_at orders prices) c.place).terms ((quote_in (quotes_at orders prices) c.place).price +ℤ c.weight *ℤ grain)) (column_of orders asset)
        ≡ int_sum_by (λ o. part (weight_in o.row asset) (terms_of o) (price_for (set prices asset (price_of prices asset +ℤ grain)) o)) orders
    sum_then part nothing =
        column_sum asset
        (λ o. part (weight_in o.row asset) (terms_of o) (price_for (set prices asset (price_of prices asset +ℤ grain)) o))
        (λ c. part c.weight (quote_in (quotes_at orders prices) c.place).terms ((quote_in (quotes_at orders prices) c.place).price +ℤ c.weight *ℤ grain))
        0 orders
        (λ o none. rw none (nothing (terms_of o) (price_for (set prices asset (price_of prices asset +ℤ grain)) o)))
        (λ k d inside.
        let o : Order = get_or orders k d in
        let at : 0 + k ≡ k = omega arith in
        let quote : quote_in (quotes_at orders prices) k ≡ quote_at prices o = get_or-map (quote_at prices) orders k d _ inside in
        rw (at, quote) (ap (part (weight_in o.row asset) (terms_of o)) (sym (price_then o (priced.each k d inside)))))

    none : (n : ℕ) → 0 * n ≡ 0
    none n = omega arith

    pub low_then : int_sum_by (low_beside (quotes_at orders prices) grain) (column_of orders asset) ≡ low_excess_in even_parts orders (set prices asset (price_of prices asset +ℤ grain)) asset
    low_then = sum_then (low_part_in even_parts) (λ t c. ap pos (none (floor_in even_parts t c)))

    pub high_then : int_sum_by (high_beside (quotes_at orders prices) grain) (column_of orders asset) ≡ high_excess_in even_parts orders (set prices asset (price_of prices asset +ℤ grain)) asset
    high_then = sum_then (high_part_in even_parts) (λ t c. ap pos (none (ceil_in even_parts t c)))

-- ---- prices that are past all limits

-- a price that is cut to the range in which a curve is asked
abbrev pub cut : ℤ → ℤ
cut c = int_max (neg_ℤ (pos (2 ^ 78))) (int_min c (pos (2 ^ 78)))

-- where a price is cut, the demand is the same
pub cut_alike : (t : Terms) → IsWithinLimits t → (c : ℤ) → (floor_in even_parts t (cut c) ≡ floor_in even_parts t c) × (ceil_in even_parts t (cut c) ≡ ceil_in even_parts t c)
cut_alike t h c =
    elim (cases_Bool (int_lt (pos (2 ^ 78)) c)) [
      | inl high ↦
          let past : t.high ≤ℤ c = omega (arith, ints, h.high_in_range, high) in
          let far : t.high ≤ℤ pos (2 ^ 78) = omega (arith, ints, h.high_in_range) in
          let here = parts_of_none even_parts t h c past in
          let there = parts_of_none even_parts t h (pos (2 ^ 78)) far in
          rw high (there.0 ∙ sym here.0, there.1 ∙ sym here.1)
      | inr not_high ↦ elim (cases_Bool (int_lt c (neg_ℤ (pos (2 ^ 78))))) [
        | inl low ↦
            let past : c ≤ℤ t.low = omega (arith, ints, h.low_in_range, low) in
            let far : neg_ℤ (pos (2 ^ 78)) ≤ℤ t.low = omega (arith, ints, h.low_in_range) in
            let here = parts_of_room even_parts t h c past in
            let there = parts_of_room even_parts t h (neg_ℤ (pos (2 ^ 78))) far in
            rw (not_high, low) (there.0 ∙ sym here.0, there.1 ∙ sym here.1)
        | inr not_low ↦ rw (not_high, not_low) (refl, refl)
      ]
    ]
