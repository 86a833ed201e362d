-- Books of one-asset orders: where a move ends, and that it leaves the other assets as they are.
use Rattle.std.proofs.Common.{◌≡◌, ◌≢◌, ℕ, zero, suc, ◌*◌, ◌^◌, ◌≤◌, ◌<◌, ◌⊎◌, inl, inr, ⊎_elim, ℤ, pos, negsuc, ◌*ℤ◌, ◌≤ℤ◌, List, [], ◌∷◌, length, set, ap, refl, sym, ◌∙◌, arith}
use Rattle.std.specs.Prelude.{All, neg_ℤ, slice_index_or}
use Rattle.std.proofs.Math.Nat.{mul-le-mul_left}
use Rattle.std.proofs.Math.IntN.{zero-*ℤ}
use Rattle.std.proofs.lemmas.Int.{ints}
use Rattle.std.proofs.lemmas.Bool.Decides.{eqb_tells}
use borrow.Author.Differences.{up, down}
use Rattle.weight_rows.specs.declared.entries.Entry.{Entry}
use Rattle.list_sums.specs.Sums.{int_sum_by}
use Rattle.weight_rows.specs.Rows.{IsWeightVector, weight_in, price_of, portfolio_price}
use Rattle.weight_rows.proofs.RowLawProofs.{price_follows_one_price}
use Rattle.demand_curve.specs.Demand.{Terms, IsWithinLimits, scaled_demand, floor_in}
use Rattle.demand_curve.proofs.DemandLaws.{demand_is_cut_at_limits}
use Rattle.demand_curve.proofs.Parts.{parts_enclose_demand}
use Rattle.demand_curve.proofs.Limits.{span_least}
use Rattle.flow_orders.specs.Orders.{terms_of}
use Rattle.list_sums.proofs.SumLemmas.{int_sum_by-same_all}
use Rattle.flow_orders.specs.Excess.{low_part_in, high_part_in}
use Rattle.flow_orders.specs.WholeUnits.{low_part, high_part}
use Rattle.flow_orders.specs.Orders.{Order}
use Rattle.flow_orders.proofs.Book.{IsConsistent, IsSettled}
use Rattle.flow_orders.specs.Excess.{low_excess_in, high_excess_in}
use Rattle.flow_orders.specs.WholeUnits.{low_excess, high_excess}

-- an order that names one asset
abbrev pub IsSingle : Order → Type 0
IsSingle o = length o.row ≡ 1

-- an order asks for nothing at a price of 2^60 or more
pub no_floor : (parts : ℕ) (t : Terms) → IsWithinLimits t → (c : ℤ) → pos (2 ^ 60) ≤ℤ c → floor_in parts t c ≡ 0
no_floor parts t h c above =
    let past : t.high ≤ℤ c = omega (arith, ints, h.high_in_range, above) in
    let none : scaled_demand t c ≡ 0 = (demand_is_cut_at_limits t h c).none_above past in
    omega (arith, ap (λ y. parts * y) none, (parts_enclose_demand parts t h c).floor_below, mul-le-mul_left (floor_in parts t c) (span_least t h))

-- no one-asset order buys at a price of 2^60 or more, so its low part is at most 0
low_part-none : (parts : ℕ) (w : ℤ) (t : Terms) → IsWithinLimits t → (p : ℤ) → pos (2 ^ 60) ≤ℤ p → low_part_in parts w t (w *ℤ p) ≤ℤ pos 0
low_part-none parts (pos zero) t h p high = omega (arith, ints)
low_part-none parts (pos (suc n)) t h p high =
    let sides : down p ≤ up p = omega (arith, ints, high) in
    let above : pos (2 ^ 60) ≤ℤ (pos (suc n) *ℤ p) = omega (arith, ints, high, mul-le-mul_left n sides) in
    omega (arith, ints, ap (λ y. suc n * y) (no_floor parts t h (pos (suc n) *ℤ p) above))
low_part-none parts (negsuc n) t h p high = omega (arith, ints)

-- no one-asset order sells at a price of -2^60 or less, so its high part is at least 0
high_part-none : (parts : ℕ) (w : ℤ) (t : Terms) → IsWithinLimits t → (p : ℤ) → p ≤ℤ neg_ℤ (pos (2 ^ 60)) → pos 0 ≤ℤ high_part_in parts w t (w *ℤ p)
high_part-none parts (pos n) t h p low = omega (arith, ints)
high_part-none parts (negsuc n) t h p low =
    let sides : up p ≤ down p = omega (arith, ints, low) in
    let above : pos (2 ^ 60) ≤ℤ (negsuc n *ℤ p) = omega (arith, ints, low, mul-le-mul_left n sides) in
    omega (arith, ints, ap (λ y. suc n * y) (no_floor parts t h (negsuc n *ℤ p) above))

-- a weight vector of one leg has no weight of the asset, or its price is the weight times the asset's price
pub one_price : (row : List Entry) (prices : List ℤ) (asset : ℕ) → length row ≡ 1 → (weight_in row asset ≡ pos 0) ⊎ (portfolio_price row prices ≡ weight_in row asset *ℤ price_of prices asset)
unfolding weight_in portfolio_price
one_price [] prices asset one = absurd (omega (arith, one))
one_price (e ∷ []) prices asset one =
    ⊎_elim
    (λ here. inr (rw (here.0, here.1) (omega (arith, ints))))
    (λ other. inl (rw other.0 refl))
    (eqb_tells e.asset asset)
one_price (e ∷ f ∷ row) prices asset one = absurd (omega (arith, one))

-- a weight vector of one leg has a weight of one asset at most
pub one_weight : (row : List Entry) (asset other : ℕ) → length row ≡ 1 → asset ≢ other → (weight_in row asset ≡ pos 0) ⊎ (weight_in row other ≡ pos 0)
unfolding weight_in
one_weight [] asset other one apart = absurd (omega (arith, one))
one_weight (e ∷ []) asset other one apart =
    ⊎_elim
    (λ here. ⊎_elim
    (λ there. absurd (apart (sym here.1 ∙ there.1)))
    (λ away. inr (rw away.0 refl))
    (eqb_tells e.asset other))
    (λ away. inl (rw away.0 refl))
    (eqb_tells e.asset asset)
one_weight (e ∷ f ∷ row) asset other one apart = absurd (omega (arith, one))

-- sums of numbers that are all at most 0, and of numbers that are all at least 0
module _ {X : Type 0} (f : X → ℤ) where
  pub int_sum_by-not_above : (xs : List X) → All (λ x. f x ≤ℤ pos 0) xs → int_sum_by f xs ≤ℤ pos 0
  int_sum_by-not_above [] h = omega (arith, ints)
  int_sum_by-not_above (x ∷ xs) h =
      let head : f x ≤ℤ pos 0 = h 0 x (omega arith) in
      omega (arith, ints, head, int_sum_by-not_above xs (λ k d inside. h (suc k) d (omega (arith, inside))))

  pub int_sum_by-not_below : (xs : List X) → All (λ x. pos 0 ≤ℤ f x) xs → pos 0 ≤ℤ int_sum_by f xs
  int_sum_by-not_below [] h = omega (arith, ints)
  int_sum_by-not_below (x ∷ xs) h =
      let head : pos 0 ≤ℤ f x = h 0 x (omega arith) in
      omega (arith, ints, head, int_sum_by-not_below xs (λ k d inside. h (suc k) d (omega (arith, inside))))

-- at a price of 2^60 or more the low excess is at most 0
pub low_excess-none : (parts : ℕ) (orders : List Order) (prices : List ℤ) (asset : ℕ) → All IsConsistent orders → All IsSingle orders → pos (2 ^ 60) ≤ℤ price_of prices asset → low_excess_in parts orders prices asset ≤ℤ pos 0
low_excess-none parts orders prices asset consistent single high =
    int_sum_by-not_above (λ o. low_part_in parts (weight_in o.row asset) (terms_of o) (portfolio_price o.row prices)) orders
    (λ k d inside.
    let o : Order = slice_index_or orders k d in
    let h : IsConsistent o = consistent k d inside in
    ⊎_elim
    (λ none. rw none (omega (arith, ints)))
    (λ own. rw own (low_part-none parts (weight_in o.row asset) (terms_of o) h.limits (price_of prices asset) high))
    (one_price o.row prices asset (single k d inside)))

-- at a price of -2^60 or less the high excess is at least 0
pub high_excess-none : (parts : ℕ) (orders : List Order) (prices : List ℤ) (asset : ℕ) → All IsConsistent orders → All IsSingle orders → price_of prices asset ≤ℤ neg_ℤ (pos (2 ^ 60)) → pos 0 ≤ℤ high_excess_in parts orders prices asset
high_excess-none parts orders prices asset consistent single low =
    int_sum_by-not_below (λ o. high_part_in parts (weight_in o.row asset) (terms_of o) (portfolio_price o.row prices)) orders
    (λ k d inside.
    let o : Order = slice_index_or orders k d in
    let h : IsConsistent o = consistent k d inside in
    ⊎_elim
    (λ none. rw none (omega (arith, ints)))
    (λ own. rw own (high_part-none parts (weight_in o.row asset) (terms_of o) h.limits (price_of prices asset) low))
    (one_price o.row prices asset (single k d inside)))

-- the price of an asset without weight leaves the portfolio's price as it is
pub price_stays : (row : List Entry) (prices : List ℤ) (other : ℕ) (x : ℤ) → IsWeightVector row → other < length prices → weight_in row other ≡ pos 0 → portfolio_price row (set prices other x) ≡ portfolio_price row prices
price_stays row prices other x lawful within none =
    let follows = rw (none, zero-*ℤ) at (price_follows_one_price row prices other x lawful within) in
    omega (arith, ints, follows)

-- another asset's price leaves the asset's low excess as it is
pub low_excess-stays : (orders : List Order) (prices : List ℤ) (asset other : ℕ) (x : ℤ) → All IsConsistent orders → All IsSingle orders → other < length prices → asset ≢ other → low_excess orders (set prices other x) asset ≡ low_excess orders prices asset
low_excess-stays orders prices asset other x consistent single within apart =
    int_sum_by-same_all (λ o. low_part (weight_in o.row asset) (terms_of o) (portfolio_price o.row (set prices other x))) (λ o. low_part (weight_in o.row asset) (terms_of o) (portfolio_price o.row prices)) orders
    (λ k d inside.
    let o : Order = slice_index_or orders k d in
    let h : IsConsistent o = consistent k d inside in
    ⊎_elim
    (λ none. rw none (omega (arith, ints)))
    (λ none. ap (λ c. low_part (weight_in o.row asset) (terms_of o) c) (price_stays o.row prices other x h.lawful within none))
    (one_weight o.row asset other (single k d inside) apart))

-- another asset's price leaves the asset's high excess as it is
pub high_excess-stays : (orders : List Order) (prices : List ℤ) (asset other : ℕ) (x : ℤ) → All IsConsistent orders → All IsSingle orders → other < length prices → asset ≢ other → high_excess orders (set prices other x) asset ≡ high_excess orders prices asset
high_excess-stays orders prices asset other x consistent single within apart =
    int_sum_by-same_all (λ o. high_part (weight_in o.row asset) (terms_of o) (portfolio_price o.row (set prices other x))) (λ o. high_part (weight_in o.row asset) (terms_of o) (portfolio_price o.row prices)) orders
    (λ k d inside.
    let o : Order = slice_index_or orders k d in
    let h : IsConsistent o = consistent k d inside in
    ⊎_elim
    (λ none. rw none (omega (arith, ints)))
    (λ none. ap (λ c. high_part (weight_in o.row asset) (terms_of o) c) (price_stays o.row prices other x h.lawful within none))
    (one_weight o.row asset other (single k d inside) apart))

-- a settled asset stays settled as another asset's price moves
pub settled_stays : (orders : List Order) (prices : List ℤ) (asset other : ℕ) (x : ℤ) → All IsConsistent orders → All IsSingle orders → other < length prices → asset ≢ other → IsSettled orders prices asset → IsSettled orders (set prices other x) asset
settled_stays orders prices asset other x consistent single within apart settled =
    record {
      low = rw (low_excess-stays orders prices asset other x consistent single within apart) settled.low;
      high = rw (high_excess-stays orders prices asset other x consistent single within apart) settled.high;
    }
