-- An unsettled asset has exactly one move, and a settled one none.
use Rattle.std.proofs.Common.{◌≡◌, ℕ, zero, suc, ◌+◌, ◌-◌, ◌*◌, ◌≤◌, ◌<◌, ◌⊎◌, inl, inr, ℤ, pos, negsuc, ◌+ℤ◌, ◌-ℤ◌, ◌≤ℤ◌, ◌<ℤ◌, List, set, ap, refl, sym, ◌∙◌, arith}
use Rattle.std.specs.Prelude.{All, neg_ℤ, slice_index_or}
use Rattle.std.proofs.Math.Nat.{mul-le-mul_left}
use Rattle.std.proofs.lemmas.Int.{ints}
use Rattle.std.proofs.lemmas.Bool.{cases_lt}
use borrow.Author.Differences.{up, down}
use Rattle.weight_rows.specs.Rows.{weight_in, price_of, portfolio_price}
use Rattle.demand_curve.specs.Demand.{Terms, IsWithinLimits}
use Rattle.demand_curve.specs.Numbers.{distance}
use Rattle.demand_curve.proofs.RoundingLaws.{roundings_enclose_demand}
use Rattle.flow_orders.specs.Orders.{terms_of}
use Rattle.list_sums.proofs.SumLemmas.{int_sum_by-le}
use Rattle.flow_orders.specs.WholeUnits.{low_part, high_part}
use Rattle.flow_orders.specs.Orders.{Order}
use Rattle.flow_orders.proofs.Book.{IsConsistent, IsSettled}
use Rattle.flow_orders.specs.Excess.{low_excess_in, high_excess_in, steepness}
use Rattle.flow_orders.specs.WholeUnits.{low_excess, high_excess}
use Rattle.flow_orders.specs.Moves.{risen, fallen}
use Rattle.flow_orders.proofs.BookSums.{from_distance}
use Rattle.flow_orders.proofs.Moves.{IsRise, IsFall}
use Rattle.flow_orders.proofs.DualWalks.{IsMove}

-- the low part is at most the high part
pub parts_in_order : (w : ℤ) (t : Terms) → IsWithinLimits t → (c : ℤ) → low_part w t c ≤ℤ high_part w t c
parts_in_order (pos n) t h c =
    omega (arith, ints, mul-le-mul_left n (roundings_enclose_demand t h c).floor_first)
parts_in_order (negsuc n) t h c =
    omega (arith, ints, mul-le-mul_left (suc n) (roundings_enclose_demand t h c).floor_first)

-- the low excess is at most the high excess
pub low_excess-le : (orders : List Order) (prices : List ℤ) (asset : ℕ) → All IsConsistent orders → low_excess orders prices asset ≤ℤ high_excess orders prices asset
low_excess-le orders prices asset consistent =
    int_sum_by-le (λ o. low_part (weight_in o.row asset) (terms_of o) (portfolio_price o.row prices)) (λ o. high_part (weight_in o.row asset) (terms_of o) (portfolio_price o.row prices)) orders
    (λ k d inside.
    let o : Order = slice_index_or orders k d in
    let h : IsConsistent o = consistent k d inside in
    parts_in_order (weight_in o.row asset) (terms_of o) h.limits (portfolio_price o.row prices))

-- a number is above a bound or at most it
pub above_or_not : (n : ℕ) (z : ℤ) → (pos n <ℤ z) ⊎ (z ≤ℤ pos n)
above_or_not n z =
    elim (cases_lt (n + down z) (up z)) [ inl above ↦ inl (omega (arith, ints, above)) | inr not ↦ inr (omega (arith, ints, not)) ]

pub below_or_not : (n : ℕ) (z : ℤ) → (z <ℤ neg_ℤ (pos n)) ⊎ (neg_ℤ (pos n) ≤ℤ z)
below_or_not n z =
    elim (cases_lt (n + up z) (down z)) [ inl below ↦ inl (omega (arith, ints, below)) | inr not ↦ inr (omega (arith, ints, not)) ]

-- from n on, there is a first place at which `After` holds, or the last place is reached; `Before` holds at all before it
first_or_last : (Before After : ℕ → Type 0) → ((e : ℕ) → Before e ⊎ After e) → (left n last : ℕ) → n + left ≡ last → ((e : ℕ) → 1 ≤ e → e < n → Before e)
    → (d : ℕ) × (n ≤ d) × (d ≤ last) × ((e : ℕ) → 1 ≤ e → e < d → Before e) × (After d ⊎ (d ≡ last))
first_or_last Before After decide zero n last ends before =
    (n, omega arith, omega (arith, ends), before, inr (omega (arith, ends)))
first_or_last Before After decide (suc left) n last ends before =
    elim (decide n) [
      | inr now ↦ (n, omega arith, omega (arith, ends), before, inl now)
      | inl later ↦
          let rest = first_or_last Before After decide left (suc n) last (omega (arith, ends)) (λ e some below. elim (cases_lt e n) [ inl earlier ↦ before e some earlier | inr not ↦ let here : e ≡ n = omega (arith, below, not) in rw here later ]) in
          (rest.0, omega (arith, rest.1), rest.2, rest.3, rest.4)
    ]

module _ (parts : ℕ) (orders : List Order) (prices : List ℤ) (asset reach : ℕ) where
  -- if the low excess is above the slope bound, there is a rise
  pub rise_exists : 1 ≤ reach → pos (steepness orders asset) <ℤ low_excess orders prices asset → (d : ℕ) × IsRise parts orders prices asset reach d
  rise_exists some above =
      let found = first_or_last (λ e. pos (parts * steepness orders asset) <ℤ low_excess_in parts orders (risen prices asset e) asset) (λ e. low_excess_in parts orders (risen prices asset e) asset ≤ℤ pos (parts * steepness orders asset))
      (λ e. above_or_not (parts * steepness orders asset) (low_excess_in parts orders (risen prices asset e) asset)) (reach - 1) 1 reach (omega (arith, some)) (λ e one none. absurd (omega (arith, one, none))) in
      (found.0, record { above = above; least = found.1; most = found.2; first = found.3; ends = found.4 })

  -- if the high excess is below minus the slope bound, there is a fall
  pub fall_exists : 1 ≤ reach → high_excess orders prices asset <ℤ neg_ℤ (pos (steepness orders asset)) → (d : ℕ) × IsFall parts orders prices asset reach d
  fall_exists some below =
      let found = first_or_last (λ e. high_excess_in parts orders (fallen prices asset e) asset <ℤ neg_ℤ (pos (parts * steepness orders asset))) (λ e. neg_ℤ (pos (parts * steepness orders asset)) ≤ℤ high_excess_in parts orders (fallen prices asset e) asset)
      (λ e. below_or_not (parts * steepness orders asset) (high_excess_in parts orders (fallen prices asset e) asset)) (reach - 1) 1 reach (omega (arith, some)) (λ e one none. absurd (omega (arith, one, none))) in
      (found.0, record { below = below; least = found.1; most = found.2; first = found.3; ends = found.4 })

  -- an asset that isn't settled has a low excess above the slope bound, or a high excess below minus the slope bound
  pub unsettled_cases : ¬ IsSettled orders prices asset → (pos (steepness orders asset) <ℤ low_excess orders prices asset) ⊎ (high_excess orders prices asset <ℤ neg_ℤ (pos (steepness orders asset)))
  unsettled_cases unsettled =
      elim (above_or_not (steepness orders asset) (low_excess orders prices asset)) [
        | inl above ↦ inl above
        | inr low ↦ elim (below_or_not (steepness orders asset) (high_excess orders prices asset)) [
          | inl below ↦ inr below
          | inr high ↦ absurd (unsettled (record { low = low; high = high }))
        ]
      ]

  -- an asset that isn't settled has a move
  pub move_exists : 1 ≤ reach → ¬ IsSettled orders prices asset → (d : ℕ) × (next : List ℤ) × IsMove parts orders prices asset reach d next
  move_exists some unsettled =
      elim (unsettled_cases unsettled) [
        | inl above ↦ let rise = rise_exists some above in (rise.0, risen prices asset rise.0, inl (rise.1, refl))
        | inr below ↦ let fall = fall_exists some below in (fall.0, fallen prices asset fall.0, inr (fall.1, refl))
      ]

  -- an asset that has a move isn't settled
  pub moved_unsettled : (d : ℕ) (next : List ℤ) → IsMove parts orders prices asset reach d next → ¬ IsSettled orders prices asset
  moved_unsettled d next move settled =
      elim move [
        | inl rise ↦ let above = rise.0.above in let low = settled.low in omega (arith, ints, above, low)
        | inr fall ↦ let below = fall.0.below in let high = settled.high in omega (arith, ints, below, high)
      ]

  -- no rise is shorter than another
  rise_no_shorter : (d e : ℕ) → IsRise parts orders prices asset reach d → IsRise parts orders prices asset reach e → d ≤ e
  rise_no_shorter d e one other =
      elim (cases_lt e d) [
        | inr not ↦ not
        | inl shorter ↦
            let before = one.first e other.least shorter in
            elim other.ends [
              | inl after ↦ absurd (omega (arith, ints, before, after))
              | inr all ↦ omega (arith, all, one.most)
            ]
      ]

  fall_no_shorter : (d e : ℕ) → IsFall parts orders prices asset reach d → IsFall parts orders prices asset reach e → d ≤ e
  fall_no_shorter d e one other =
      elim (cases_lt e d) [
        | inr not ↦ not
        | inl shorter ↦
            let before = one.first e other.least shorter in
            elim other.ends [
              | inl after ↦ absurd (omega (arith, ints, before, after))
              | inr all ↦ omega (arith, all, one.most)
            ]
      ]

  -- a rise and a fall exclude one another
  pub rise_or_fall : All IsConsistent orders → (d e : ℕ) → IsRise parts orders prices asset reach d → IsFall parts orders prices asset reach e → ⊥
  rise_or_fall consistent d e rise fall =
      let order = low_excess-le orders prices asset consistent in
      let above = rise.above in
      let below = fall.below in
      omega (arith, ints, order, above, below)

  -- an asset has one move at most
  pub move_unique : All IsConsistent orders → (d e : ℕ) (next other : List ℤ) → IsMove parts orders prices asset reach d next → IsMove parts orders prices asset reach e other → (d ≡ e) × (next ≡ other)
  move_unique consistent d e next other one two =
      elim one [
        | inl rise ↦ elim two [
          | inl again ↦ let same : d ≡ e = omega (arith, rise_no_shorter d e rise.0 again.0, rise_no_shorter e d again.0 rise.0) in (same, rise.1 ∙ ap (λ y. risen prices asset y) same ∙ sym again.1)
          | inr fall ↦ absurd (rise_or_fall consistent d e rise.0 fall.0)
        ]
        | inr fall ↦ elim two [
          | inl rise ↦ absurd (rise_or_fall consistent e d rise.0 fall.0)
          | inr again ↦ let same : d ≡ e = omega (arith, fall_no_shorter d e fall.0 again.0, fall_no_shorter e d again.0 fall.0) in (same, fall.1 ∙ ap (λ y. fallen prices asset y) same ∙ sym again.1)
        ]
      ]

  -- a price x is the end of a rise, if no price before it ends the rise and x does, by its excess or as the last in reach
  pub rise_to_place : (x : ℤ) → pos (steepness orders asset) <ℤ low_excess orders prices asset → price_of prices asset <ℤ x → x ≤ℤ (price_of prices asset +ℤ pos reach)
      → ((p : ℤ) → price_of prices asset <ℤ p → p <ℤ x → pos (parts * steepness orders asset) <ℤ low_excess_in parts orders (set prices asset p) asset)
      → (low_excess_in parts orders (set prices asset x) asset ≤ℤ pos (parts * steepness orders asset)) ⊎ (x ≡ price_of prices asset +ℤ pos reach)
      → IsMove parts orders prices asset reach (distance x (price_of prices asset)) (set prices asset x)
  rise_to_place x above after most before ends =
      let d = distance x (price_of prices asset) in
      let place : x ≡ price_of prices asset +ℤ pos d = from_distance (price_of prices asset) x (omega (arith, ints, after)) in
      inl (
        record {
          above = above;
          least = omega (arith, ints, place, after);
          most = omega (arith, ints, place, most);
          first = λ e some earlier. before (price_of prices asset +ℤ pos e) (omega (arith, ints, some)) (omega (arith, ints, place, earlier));
          ends = elim ends [
            | inl low ↦ inl (rw (← place) low)
            | inr all ↦ inr (omega (arith, ints, place, all))
          ];
        },
        ap (λ y. set prices asset y) place,
      )

  -- a price x is the end of a fall, if no price before it ends the fall and x does, by its excess or as the last in reach
  pub fall_to_place : (x : ℤ) → high_excess orders prices asset <ℤ neg_ℤ (pos (steepness orders asset)) → x <ℤ price_of prices asset → (price_of prices asset -ℤ pos reach) ≤ℤ x
      → ((p : ℤ) → x <ℤ p → p <ℤ price_of prices asset → high_excess_in parts orders (set prices asset p) asset <ℤ neg_ℤ (pos (parts * steepness orders asset)))
      → (neg_ℤ (pos (parts * steepness orders asset)) ≤ℤ high_excess_in parts orders (set prices asset x) asset) ⊎ (x ≡ price_of prices asset -ℤ pos reach)
      → IsMove parts orders prices asset reach (distance (price_of prices asset) x) (set prices asset x)
  fall_to_place x below before most after ends =
      let d = distance (price_of prices asset) x in
      let place : x ≡ price_of prices asset -ℤ pos d = from_above (price_of prices asset) x (omega (arith, ints, before)) in
      inr (
        record {
          below = below;
          least = omega (arith, ints, place, before);
          most = omega (arith, ints, place, most);
          first = λ e some later. after (price_of prices asset -ℤ pos e) (omega (arith, ints, place, later)) (omega (arith, ints, some));
          ends = elim ends [
            | inl high ↦ inl (rw (← place) high)
            | inr all ↦ inr (omega (arith, ints, place, all))
          ];
        },
        ap (λ y. set prices asset y) place,
      )
    where
      from_above : (y x : ℤ) → x ≤ℤ y → x ≡ y -ℤ pos (distance y x)
      from_above y x h = omega (arith, ints, from_distance x y h)
