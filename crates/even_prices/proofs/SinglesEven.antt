-- Books in which each order names one asset: each asset is for itself, and a move with a long reach makes its asset even.
use Rattle.std.proofs.Common.{◌≡◌, inl, inr, ℕ, zero, suc, ◌+◌, ◌^◌, ◌≤◌, ◌<◌, ℤ, pos, ◌+ℤ◌, ◌-ℤ◌, ◌*ℤ◌, ◌≤ℤ◌, true, List, length, set, ap, sym, ◌∙◌, arith}
use Rattle.std.specs.Prelude.{All, neg_ℤ, slice_index_or}
use Rattle.std.proofs.lemmas.Int.{ints}
use Rattle.std.proofs.lemmas.Bool.{cases_lt}
use borrow.Author.Differences.{up, down}
use Rattle.list_sums.proofs.SumLemmas.{int_sum_by-same_all}
use Rattle.weight_rows.specs.Rows.{weight_in, price_of, portfolio_price}
use Rattle.demand_curve.specs.Demand.{Terms, IsWithin}
use Rattle.flow_orders.specs.Orders.{Order, IsOrder, terms_of}
use Rattle.flow_orders.specs.Excess.{low_part_in, high_part_in, low_excess_in, high_excess_in}
use Rattle.flow_orders.specs.Moves.{risen, fallen}
use Rattle.flow_orders.proofs.Book.{IsConsistent}
use Rattle.flow_orders.proofs.Singles.{IsSingle, one_price, low_excess-none, high_excess-none}
use Rattle.flow_orders.proofs.SingleMoves.{price_of-risen, price_of-fallen}
use Rattle.excess_bounds.specs.declared.directions.Direction.{Direction}
use Rattle.excess_bounds.specs.declared.directions.Direction.TheVariants.{Rise, Fall}
use Rattle.excess_bounds.specs.Directions.{asked_towards, price_towards}
use Rattle.excess_bounds.specs.Ends.{IsEnd}
use Rattle.even_prices.specs.Even.{even_parts, IsEven, is_too_low, is_too_high}
use Rattle.even_prices.specs.Directions.{IsUnevenTowards}
use Rattle.even_prices.specs.Laws.{SinglesEndEven}
use Rattle.even_prices.proofs.EvenLaws.{all_consistent}
use Rattle.even_prices.proofs.MovedEven.{rise_before, fall_before, rise_makes_even, fall_makes_even}

-- ---- an asset's excess depends on its own price alone

-- what one order adds depends on that price alone
own_part : (part : ℤ → Terms → ℤ → ℤ) → ((t : Terms) (c d : ℤ) → part (pos 0) t c ≡ part (pos 0) t d) → (o : Order) (prices others : List ℤ) (asset : ℕ) → IsSingle o → price_of others asset ≡ price_of prices asset
    → part (weight_in o.row asset) (terms_of o) (portfolio_price o.row prices) ≡ part (weight_in o.row asset) (terms_of o) (portfolio_price o.row others)
own_part part nothing o prices others asset single same =
    elim (one_price o.row prices asset single) [
      | inl none ↦ rw none (nothing (terms_of o) (portfolio_price o.row prices) (portfolio_price o.row others))
      | inr own ↦ elim (one_price o.row others asset single) [
        | inl none ↦ rw none (nothing (terms_of o) (portfolio_price o.row prices) (portfolio_price o.row others))
        | inr own_too ↦ ap (part (weight_in o.row asset) (terms_of o)) (own ∙ ap (λ p. weight_in o.row asset *ℤ p) (sym same) ∙ sym own_too)
      ]
    ]

low_own : (orders : List Order) (prices others : List ℤ) (asset : ℕ) → All IsSingle orders → price_of others asset ≡ price_of prices asset
    → low_excess_in even_parts orders prices asset ≡ low_excess_in even_parts orders others asset
low_own orders prices others asset single same =
    int_sum_by-same_all (λ o. low_part_in even_parts (weight_in o.row asset) (terms_of o) (portfolio_price o.row prices)) (λ o. low_part_in even_parts (weight_in o.row asset) (terms_of o) (portfolio_price o.row others)) orders
    (λ k d inside. own_part (low_part_in even_parts) (λ t c e. omega (arith, ints)) (slice_index_or orders k d) prices others asset (single k d inside) same)

high_own : (orders : List Order) (prices others : List ℤ) (asset : ℕ) → All IsSingle orders → price_of others asset ≡ price_of prices asset
    → high_excess_in even_parts orders prices asset ≡ high_excess_in even_parts orders others asset
high_own orders prices others asset single same =
    int_sum_by-same_all (λ o. high_part_in even_parts (weight_in o.row asset) (terms_of o) (portfolio_price o.row prices)) (λ o. high_part_in even_parts (weight_in o.row asset) (terms_of o) (portfolio_price o.row others)) orders
    (λ k d inside. own_part (high_part_in even_parts) (λ t c e. omega (arith, ints)) (slice_index_or orders k d) prices others asset (single k d inside) same)

even_own : (orders : List Order) (prices others : List ℤ) (asset : ℕ) → All IsSingle orders → asset < length prices → asset < length others → price_of others asset ≡ price_of prices asset
    → IsEven orders prices asset → IsEven orders others asset
even_own orders prices others asset single within there same even =
    let higher : price_of (risen others asset 1) asset ≡ price_of (risen prices asset 1) asset = price_of-risen others asset 1 there ∙ ap (λ p. p +ℤ pos 1) same ∙ sym (price_of-risen prices asset 1 within) in
    let lower : price_of (fallen others asset 1) asset ≡ price_of (fallen prices asset 1) asset = price_of-fallen others asset 1 there ∙ ap (λ p. p -ℤ pos 1) same ∙ sym (price_of-fallen prices asset 1 within) in
    record {
      not_too_low = rw (← low_own orders prices others asset single same, ← high_own orders (risen prices asset 1) (risen others asset 1) asset single higher) even.not_too_low;
      not_too_high = rw (← high_own orders prices others asset single same, ← low_own orders (fallen prices asset 1) (fallen others asset 1) asset single lower) even.not_too_high;
    }

-- ---- a move with a long reach ends within 2^60, and makes its asset even

module _ (orders : List Order) (prices : List ℤ) (asset reach : ℕ) (consistent : All IsConsistent orders) (single : All IsSingle orders) (within : asset < length prices) (start : IsWithin (2 ^ 60) (price_of prices asset)) (far : 2 ^ 61 ≤ reach) where
  -- at 2^60 or more the low excess isn't above 0, and at -2^60 or less the high one isn't below 0
  none_above : (d : ℕ) → pos (2 ^ 60) ≤ℤ (price_of prices asset +ℤ pos d) → low_excess_in even_parts orders (risen prices asset d) asset ≤ℤ pos 0
  none_above d high = low_excess-none even_parts orders (risen prices asset d) asset consistent single (rw (price_of-risen prices asset d within) high)

  none_below : (d : ℕ) → (price_of prices asset -ℤ pos d) ≤ℤ neg_ℤ (pos (2 ^ 60)) → pos 0 ≤ℤ high_excess_in even_parts orders (fallen prices asset d) asset
  none_below d low = high_excess-none even_parts orders (fallen prices asset d) asset consistent single (rw (price_of-fallen prices asset d within) low)

  rise_ends : (d : ℕ) → is_too_low orders prices asset ≡ true → IsEnd (asked_towards Rise even_parts orders prices asset) (pos 0) reach (suc d)
      → IsEven orders (risen prices asset (suc d)) asset × IsWithin (2 ^ 60) (price_of prices asset +ℤ pos (suc d))
  rise_ends d uneven end =
      let before = rise_before prices asset within orders reach d uneven end in
      let most : (price_of prices asset +ℤ pos (suc d)) ≤ℤ pos (2 ^ 60) = elim (cases_lt (up (price_of prices asset) + d) (2 ^ 60 + down (price_of prices asset))) [
        | inl below ↦ omega (arith, ints, below)
        | inr high ↦ let none = none_above d (omega (arith, ints, high)) in absurd (omega (arith, ints, none, before))
      ] in
      let ended : low_excess_in even_parts orders (risen prices asset (suc d)) asset ≤ℤ pos 0 = elim end.ends [
        | inl ended ↦ ended
        | inr all ↦ none_above (suc d) (omega (arith, ints, start, all, far))
      ] in
      (rise_makes_even prices asset within orders reach d uneven end ended, (omega (arith, ints, start), most))

  fall_ends : (d : ℕ) → is_too_high orders prices asset ≡ true → IsEnd (asked_towards Fall even_parts orders prices asset) (pos 0) reach (suc d)
      → IsEven orders (fallen prices asset (suc d)) asset × IsWithin (2 ^ 60) (price_of prices asset -ℤ pos (suc d))
  fall_ends d uneven end =
      let before = fall_before prices asset within orders reach d uneven end in
      let least : neg_ℤ (pos (2 ^ 60)) ≤ℤ (price_of prices asset -ℤ pos (suc d)) = elim (cases_lt (down (price_of prices asset) + d) (2 ^ 60 + up (price_of prices asset))) [
        | inl above ↦ omega (arith, ints, above)
        | inr low ↦ let none = none_below d (omega (arith, ints, low)) in absurd (omega (arith, ints, none, before))
      ] in
      let ended : pos 0 ≤ℤ high_excess_in even_parts orders (fallen prices asset (suc d)) asset = elim end.ends [
        | inl ended ↦ omega (arith, ints, ended)
        | inr all ↦ none_below (suc d) (omega (arith, ints, start, all, far))
      ] in
      (fall_makes_even prices asset within orders reach d uneven end ended, (least, omega (arith, ints, start)))

move_ends : (orders : List Order) (prices : List ℤ) (asset reach amount : ℕ) (direction : Direction)
    → All IsOrder orders → All IsSingle orders → asset < length prices → IsWithin (2 ^ 60) (price_of prices asset) → 2 ^ 61 ≤ reach
    → IsUnevenTowards orders prices asset direction → IsEnd (asked_towards direction even_parts orders prices asset) (pos 0) reach amount
    → IsEven orders (set prices asset (price_towards direction (price_of prices asset) amount)) asset × IsWithin (2 ^ 60) (price_towards direction (price_of prices asset) amount)
move_ends orders prices asset reach zero direction each single within start far uneven end = absurd (omega (arith, end.least))
move_ends orders prices asset reach (suc d) Rise each single within start far uneven end = rise_ends orders prices asset reach (all_consistent orders each) single within start far d uneven end
move_ends orders prices asset reach (suc d) Fall each single within start far uneven end = fall_ends orders prices asset reach (all_consistent orders each) single within start far d uneven end

pub singles_end_even : SinglesEndEven
singles_end_even = record { ends = move_ends; own = even_own }
