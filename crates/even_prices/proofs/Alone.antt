-- Orders that have nobody to trade with.
use Rattle.std.proofs.Common.{◌≡◌, ◌≢◌, ◌⊎◌, inl, inr, ⊎_elim, ℕ, zero, suc, ◌+◌, ◌*◌, ◌≤◌, ◌<◌, ℤ, pos, negsuc, ◌+ℤ◌, ◌*ℤ◌, ◌≤ℤ◌, List, [], ◌∷◌, length, get_or, refl, ap, ◌∙◌, arith}
use Rattle.std.specs.Prelude.{All, unsigned_abs, slice_index_or}
use Rattle.std.specs.List.{sum_by, range_with_len}
use Rattle.std.proofs.Math.IntN.{pos-*ℤ-pos, zero-*ℤ}
use Rattle.std.proofs.lemmas.Int.{ints, unsigned_abs-mul}
use Rattle.std.proofs.lemmas.List.FromFn.{get_or-range_with_len, length-range_with_len}
use Rattle.std.proofs.lemmas.List.Sums.{get_or-le-sum_by, sum_by-cons}
use Rattle.list_sums.specs.Sums.{int_sum_by}
use Rattle.weight_rows.specs.declared.entries.Entry.{Entry}
use Rattle.weight_rows.specs.Rows.{IsLawfulWeight, weight_in, IsPricedBy, portfolio_price}
use Rattle.weight_rows.proofs.RowLawProofs.{entries_give_weights}
use Rattle.demand_curve.specs.Demand.{Terms, IsWithinLimits, span, scaled_demand, floor_in, floor_rate}
use Rattle.demand_curve.proofs.Parts.{parts_enclose_demand}
use Rattle.demand_curve.proofs.RoundingLaws.{at_most_from_times, roundings_enclose_demand}
use Rattle.flow_orders.specs.Orders.{Order, IsOrder, terms_of}
use Rattle.flow_orders.specs.Excess.{price_for, low_part_in, high_part_in, low_excess_in, high_excess_in}
use Rattle.flow_orders.specs.Moves.{risen, fallen}
use Rattle.flow_orders.specs.Trades.{Trade, trades, received, residual}
use Rattle.flow_orders.proofs.Excess.{sold_is}
use Rattle.flow_orders.proofs.TradeFacts.{All-trades}
use Rattle.flow_orders.proofs.Book.{IsConsistent}
use Rattle.flow_orders.proofs.Singles.{int_sum_by-not_above, int_sum_by-not_below}
use Rattle.even_prices.specs.Even.{even_parts, IsEven, AreEven}
use Rattle.even_prices.specs.Laws.{IsLittle, IsOneSided, left_alone, TradesNothing, NobodyTradesAlone}
use Rattle.even_prices.proofs.EvenLaws.{is_consistent, all_consistent}

-- ---- sums whose members are all on one side of 0
module _ {X : Type 0} (f : X → ℤ) where
  none_above : (xs : List X) → All (λ x. pos 0 ≤ℤ f x) xs → int_sum_by f xs ≤ℤ pos 0 → All (λ x. f x ≡ pos 0) xs
  none_above [] least most k d inside = absurd (omega (arith, inside))
  none_above (x ∷ xs) least most zero d inside =
      let head : pos 0 ≤ℤ f x = least 0 x (omega arith) in
      let rest = int_sum_by-not_below f xs (λ j e within. least (suc j) e (omega (arith, within))) in
      omega (arith, ints, head, rest, most)
  none_above (x ∷ xs) least most (suc k) d inside =
      let head : pos 0 ≤ℤ f x = least 0 x (omega arith) in
      none_above xs (λ j e within. least (suc j) e (omega (arith, within))) (omega (arith, ints, head, most)) k d (omega (arith, inside))

  none_below : (xs : List X) → All (λ x. f x ≤ℤ pos 0) xs → pos 0 ≤ℤ int_sum_by f xs → All (λ x. f x ≡ pos 0) xs
  none_below [] most least k d inside = absurd (omega (arith, inside))
  none_below (x ∷ xs) most least zero d inside =
      let head : f x ≤ℤ pos 0 = most 0 x (omega arith) in
      let rest = int_sum_by-not_above f xs (λ j e within. most (suc j) e (omega (arith, within))) in
      omega (arith, ints, head, rest, least)
  none_below (x ∷ xs) most least (suc k) d inside =
      let head : f x ≤ℤ pos 0 = most 0 x (omega arith) in
      none_below xs (λ j e within. most (suc j) e (omega (arith, within))) (omega (arith, ints, head, least)) k d (omega (arith, inside))

-- ---- one order

-- who buys adds nothing negative to an excess
bought_low : (parts : ℕ) (w : ℤ) (t : Terms) (c : ℤ) → pos 0 ≤ℤ w → pos 0 ≤ℤ low_part_in parts w t c
bought_low parts (pos n) t c buys = omega (arith, ints)
bought_low parts (negsuc n) t c buys = absurd (omega (arith, ints, buys))

bought_high : (parts : ℕ) (w : ℤ) (t : Terms) (c : ℤ) → pos 0 ≤ℤ w → pos 0 ≤ℤ high_part_in parts w t c
bought_high parts (pos n) t c buys = omega (arith, ints)
bought_high parts (negsuc n) t c buys = absurd (omega (arith, ints, buys))

-- who sells adds nothing positive to an excess
sold_low : (parts : ℕ) (w : ℤ) (t : Terms) (c : ℤ) → w ≤ℤ pos 0 → low_part_in parts w t c ≤ℤ pos 0
sold_low parts (pos zero) t c sells = omega (arith, ints)
sold_low parts (pos (suc n)) t c sells = absurd (omega (arith, ints, sells))
sold_low parts (negsuc n) t c sells = omega (arith, ints)

sold_high : (parts : ℕ) (w : ℤ) (t : Terms) (c : ℤ) → w ≤ℤ pos 0 → high_part_in parts w t c ≤ℤ pos 0
sold_high parts (pos zero) t c sells = omega (arith, ints)
sold_high parts (pos (suc n)) t c sells = absurd (omega (arith, ints, sells))
sold_high parts (negsuc n) t c sells = omega (arith, ints)

-- a product with a positive number is 0 only if the other factor is
zero_by : (n x : ℕ) → suc n * x ≡ 0 → x ≡ 0
zero_by n x none = omega (arith, none)

-- a demand is less than a part of a unit if it is 0 rounded down to parts
little : (parts : ℕ) (t : Terms) → IsWithinLimits t → (c : ℤ) → floor_in parts t c ≡ 0 → parts * scaled_demand t c < span t
little parts t h c none = omega (arith, (parts_enclose_demand parts t h c).floor_near, ap (λ y. y * span t) none)

bought_little : (parts : ℕ) (w : ℤ) (t : Terms) → IsWithinLimits t → (c : ℤ) → pos 0 ≤ℤ w → w ≢ pos 0 → low_part_in parts w t c ≡ pos 0 → parts * scaled_demand t c < span t
bought_little parts (pos zero) t h c buys some none = absurd (some refl)
bought_little parts (pos (suc n)) t h c buys some none =
    little parts t h c (zero_by n (floor_in parts t c) (omega (arith, ints, none)))
bought_little parts (negsuc n) t h c buys some none = absurd (omega (arith, ints, buys))

sold_little : (parts : ℕ) (w : ℤ) (t : Terms) → IsWithinLimits t → (c : ℤ) → w ≤ℤ pos 0 → w ≢ pos 0 → high_part_in parts w t c ≡ pos 0 → parts * scaled_demand t c < span t
sold_little parts (pos zero) t h c sells some none = absurd (some refl)
sold_little parts (pos (suc n)) t h c sells some none = absurd (omega (arith, ints, sells))
sold_little parts (negsuc n) t h c sells some none =
    little parts t h c (zero_by n (floor_in parts t c) (omega (arith, ints, none)))

-- ---- an asset that nobody sells, or that nobody buys

module _ (orders : List Order) (prices : List ℤ) (asset : ℕ) (consistent : All IsConsistent orders) (even : IsEven orders prices asset) where
  unsold : All (λ o. pos 0 ≤ℤ weight_in o.row asset) orders → All (λ o. weight_in o.row asset ≢ pos 0 → IsLittle o prices) orders
  unsold buys k d inside some =
      let low = λ (o : Order). low_part_in even_parts (weight_in o.row asset) (terms_of o) (portfolio_price o.row prices) in
      let high = λ (o : Order). high_part_in even_parts (weight_in o.row asset) (terms_of o) (portfolio_price o.row (risen prices asset 1)) in
      let o : Order = slice_index_or orders k d in
      let h : IsConsistent o = consistent k d inside in
      let above = int_sum_by-not_below high orders (λ j e within. let p : Order = slice_index_or orders j e in bought_high even_parts (weight_in p.row asset) (terms_of p) (portfolio_price p.row (risen prices asset 1)) (buys j e within)) in
      let none : low_excess_in even_parts orders prices asset ≤ℤ pos 0 = ⊎_elim (λ low. low) (λ turns. absurd (omega (arith, ints, above, turns))) even.not_too_low in
      let zeros = none_above low orders (λ j e within. let p : Order = slice_index_or orders j e in bought_low even_parts (weight_in p.row asset) (terms_of p) (portfolio_price p.row prices) (buys j e within)) none in
      bought_little even_parts (weight_in o.row asset) (terms_of o) h.limits (portfolio_price o.row prices) (buys k d inside) some (zeros k d inside)

  unbought : All (λ o. weight_in o.row asset ≤ℤ pos 0) orders → All (λ o. weight_in o.row asset ≢ pos 0 → IsLittle o prices) orders
  unbought sells k d inside some =
      let high = λ (o : Order). high_part_in even_parts (weight_in o.row asset) (terms_of o) (portfolio_price o.row prices) in
      let low = λ (o : Order). low_part_in even_parts (weight_in o.row asset) (terms_of o) (portfolio_price o.row (fallen prices asset 1)) in
      let o : Order = slice_index_or orders k d in
      let h : IsConsistent o = consistent k d inside in
      let below = int_sum_by-not_above low orders (λ j e within. let p : Order = slice_index_or orders j e in sold_low even_parts (weight_in p.row asset) (terms_of p) (portfolio_price p.row (fallen prices asset 1)) (sells j e within)) in
      let none : pos 0 ≤ℤ high_excess_in even_parts orders prices asset = ⊎_elim (λ high. high) (λ turns. absurd (omega (arith, ints, below, turns))) even.not_too_high in
      let zeros = none_below high orders (λ j e within. let p : Order = slice_index_or orders j e in sold_high even_parts (weight_in p.row asset) (terms_of p) (portfolio_price p.row prices) (sells j e within)) none in
      sold_little even_parts (weight_in o.row asset) (terms_of o) h.limits (portfolio_price o.row prices) (sells k d inside) some (zeros k d inside)

  little_where_one_sided : IsOneSided orders asset → All (λ o. weight_in o.row asset ≢ pos 0 → IsLittle o prices) orders
  little_where_one_sided sides = ⊎_elim unsold unbought sides

-- ---- what one unit more adds to the imbalance

received_buys : (w : ℤ) (x : ℕ) → pos 0 ≤ℤ w → pos 0 ≤ℤ (w *ℤ pos x)
received_buys (pos n) x buys = omega (arith, ints, pos-*ℤ-pos n x)
received_buys (negsuc n) x buys = absurd (omega (arith, ints, buys))

received_sells : (w : ℤ) (x : ℕ) → w ≤ℤ pos 0 → (w *ℤ pos x) ≤ℤ pos 0
received_sells (pos zero) x sells = omega (arith, ints, zero-*ℤ (pos x))
received_sells (pos (suc n)) x sells = absurd (omega (arith, ints, sells))
received_sells (negsuc n) x sells = omega (arith, ints, sold_is n x)

one_more_adds : (orders : List Order) (rates : List ℕ) (asset : ℕ) → IsOneSided orders asset
    → All (λ o. unsigned_abs (residual (trades orders rates) asset +ℤ weight_in o.row asset) ≡ unsigned_abs (residual (trades orders rates) asset) + unsigned_abs (weight_in o.row asset)) orders
one_more_adds orders rates asset sides k d inside =
    let w = weight_in (slice_index_or orders k d).row asset in
    elim sides [
      | inl buys ↦
          let all = All-trades (λ o. pos 0 ≤ℤ weight_in o.row asset) orders rates buys in
          let left = int_sum_by-not_below (received asset) (trades orders rates) (λ j e within. let t : Trade = slice_index_or (trades orders rates) j e in received_buys (weight_in t.order.row asset) t.traded (all j e within)) in
          let own : pos 0 ≤ℤ w = buys k d inside in
          omega (arith, ints, left, own)
      | inr sells ↦
          let all = All-trades (λ o. weight_in o.row asset ≤ℤ pos 0) orders rates sells in
          let left = int_sum_by-not_above (received asset) (trades orders rates) (λ j e within. let t : Trade = slice_index_or (trades orders rates) j e in received_sells (weight_in t.order.row asset) t.traded (all j e within)) in
          let own : w ≤ℤ pos 0 = sells k d inside in
          omega (arith, ints, left, own)
    ]

-- ---- an order that is alone in its book

-- one order's weight has one sign
own_side : (o : Order) (asset : ℕ) → IsOneSided (o ∷ []) asset
own_side o asset =
    ⊎_elim
    (λ buys. inl (λ k d inside. let first : k ≡ 0 = omega (arith, inside) in rw first buys))
    (λ sells. inr (λ k d inside. let first : k ≡ 0 = omega (arith, inside) in rw first sells))
    (side (weight_in o.row asset))
  where
    side : (w : ℤ) → (pos 0 ≤ℤ w) ⊎ (w ≤ℤ pos 0)
    side (pos n) = inl (omega (arith, ints))
    side (negsuc n) = inr (omega (arith, ints))

-- the first leg's asset has a price, and a weight
record IsLeg (o : Order) (prices : List ℤ) (asset : ℕ) : Type 0 where
  priced : asset < length prices
  weighs : 1 ≤ unsigned_abs (weight_in o.row asset)

some_leg : (o : Order) (prices : List ℤ) → IsOrder o → IsPricedBy o.row prices → (asset : ℕ) × IsLeg o prices asset
some_leg o prices h priced =
    let d : Entry = record { asset = 0; weight = pos 0 } in
    let e : Entry = slice_index_or o.row 0 d in
    let inside : 0 < length o.row = omega (arith, h.row.some) in
    let weight = entries_give_weights o.row h.row 0 d inside in
    let light : IsLawfulWeight e.weight = h.row.weights 0 d inside in
    (e.asset, record { priced = priced 0 d inside; weighs = rw weight light.0 })

-- what is left of an asset
left_of : (o : Order) (asset x : ℕ) → unsigned_abs (residual (trades (o ∷ []) (x ∷ [])) asset) ≡ unsigned_abs (weight_in o.row asset) * x
left_of o asset x =
    let w = weight_in o.row asset in
    let plain : w *ℤ pos x +ℤ pos 0 ≡ w *ℤ pos x = omega (arith, ints) in
    rw plain (unsigned_abs-mul w (pos x))

-- nothing is left if nothing is traded
nothing_left : (n : ℕ) (o : Order) → left_alone n o 0 ≡ 0
nothing_left n o = zeros (range_with_len 0 n)
  where
    zeros : (assets : List ℕ) → sum_by (λ asset. unsigned_abs (residual (trades (o ∷ []) (0 ∷ [])) asset)) assets ≡ 0
    zeros [] = refl
    zeros (asset ∷ assets) =
        omega (arith, left_of o asset 0, zeros assets, sum_by-cons (λ asset. unsigned_abs (residual (trades (o ∷ []) (0 ∷ [])) asset)) asset assets)

-- what is left of one asset is part of what is left of all
left_in_all : (n : ℕ) (o : Order) (asset x : ℕ) → asset < n → unsigned_abs (weight_in o.row asset) * x ≤ left_alone n o x
left_in_all n o asset x inside =
    let left = λ (a : ℕ). unsigned_abs (residual (trades (o ∷ []) (x ∷ [])) a) in
    let count : asset < length (range_with_len 0 n) = omega (arith, inside, length-range_with_len 0 n) in
    let part = get_or-le-sum_by left (range_with_len 0 n) asset 0 count in
    let at : get_or (range_with_len 0 n) asset 0 ≡ asset = omega (arith, get_or-range_with_len 0 n asset 0 inside) in
    omega (arith, rw at at part, left_of o asset x)

-- a positive number of units of an asset is left, unless none is traded
none_traded : (w x : ℕ) → 1 ≤ w → w * x ≤ 0 → x ≡ 0
none_traded zero x some none = absurd (omega (arith, some))
none_traded (suc w) x some none = zero_by w x (omega (arith, none))

trades_nothing : (o : Order) (prices : List ℤ) → IsOrder o → IsPricedBy o.row prices → AreEven (o ∷ []) prices → TradesNothing o prices
trades_nothing o prices h priced even =
    let leg = some_leg o prices h priced in
    let weighs = leg.1.weighs in
    let some : weight_in o.row leg.0 ≢ pos 0 = λ none. omega (arith, ints, none, weighs) in
    let book : All IsConsistent (o ∷ []) = λ k d inside. let first : k ≡ 0 = omega (arith, inside) in rw first (is_consistent o h) in
    let small = little_where_one_sided (o ∷ []) prices leg.0 book (even leg.0 leg.1.priced) (own_side o leg.0) 0 o (omega arith) some in
    let none = rounds_down (terms_of o) h.terms (price_for prices o) small in
    record {
      little = small;
      rounded_down = none;
      rounded = λ x rounding. at_most_from_times x 1 (span (terms_of o)) (omega (arith, small, rounding.less_than_one_above));
      nothing = λ x least.
          let nothing : left_alone (length prices) o (floor_rate (terms_of o) (price_for prices o)) ≡ 0 = ap (left_alone (length prices) o) none ∙ nothing_left (length prices) o in
          none_traded (unsigned_abs (weight_in o.row leg.0)) x weighs (omega (arith, left_in_all (length prices) o leg.0 x leg.1.priced, least, nothing));
    }
  where
    rounds_down : (t : Terms) → IsWithinLimits t → (c : ℤ) → even_parts * scaled_demand t c < span t → floor_rate t c ≡ 0
    rounds_down t h c small =
        let most : floor_rate t c ≤ 0 = at_most_from_times (floor_rate t c) 0 (span t) (omega (arith, small, (roundings_enclose_demand t h c).floor_below)) in
        omega (arith, most)

pub nobody_trades_alone : NobodyTradesAlone
nobody_trades_alone = record {
  one_sided = λ orders prices asset each even sides. little_where_one_sided orders prices asset (all_consistent orders each) even sides;
  adds = one_more_adds;
  alone = trades_nothing;
}
