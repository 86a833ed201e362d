-- With one part of a unit, the excess in parts is that in whole units.
use Rattle.std.proofs.Common.{◌≡◌, ℕ, suc, ◌*◌, ◌||◌, ℤ, pos, negsuc, List, ap, ◌∙◌, arith}
use Rattle.std.specs.Prelude.{neg_ℤ, int_lt}
use Rattle.weight_rows.specs.Rows.{weight_in}
use Rattle.demand_curve.specs.Demand.{Terms}
use Rattle.demand_curve.proofs.Parts.{one_part_is_a_unit}
use Rattle.list_sums.proofs.SumLemmas.{int_sum_by-same_all}
use Rattle.flow_orders.specs.Orders.{Order, terms_of}
use Rattle.flow_orders.specs.Excess.{price_for, low_part_in, high_part_in, low_excess_in, high_excess_in, steepness, is_above_in, is_below_in, is_unsettled}
use Rattle.flow_orders.specs.WholeUnits.{low_part, high_part, low_excess, high_excess, is_above, is_below}

low_part_is : (w : ℤ) (t : Terms) (c : ℤ) → low_part_in 1 w t c ≡ low_part w t c
low_part_is (pos n) t c = ap (λ x. pos (n * x)) (one_part_is_a_unit t c).0
low_part_is (negsuc n) t c = ap (λ x. neg_ℤ (pos (suc n * x))) (one_part_is_a_unit t c).1

high_part_is : (w : ℤ) (t : Terms) (c : ℤ) → high_part_in 1 w t c ≡ high_part w t c
high_part_is (pos n) t c = ap (λ x. pos (n * x)) (one_part_is_a_unit t c).1
high_part_is (negsuc n) t c = ap (λ x. neg_ℤ (pos (suc n * x))) (one_part_is_a_unit t c).0

module _ (orders : List Order) (prices : List ℤ) (asset : ℕ) where
  pub low_one : low_excess_in 1 orders prices asset ≡ low_excess orders prices asset
  low_one = int_sum_by-same_all (λ (o : Order). low_part_in 1 (weight_in o.row asset) (terms_of o) (price_for prices o)) (λ o. low_part (weight_in o.row asset) (terms_of o) (price_for prices o)) orders
      (λ k d inside. low_part_is _ _ _)

  pub high_one : high_excess_in 1 orders prices asset ≡ high_excess orders prices asset
  high_one = int_sum_by-same_all (λ (o : Order). high_part_in 1 (weight_in o.row asset) (terms_of o) (price_for prices o)) (λ o. high_part (weight_in o.row asset) (terms_of o) (price_for prices o)) orders
      (λ k d inside. high_part_is _ _ _)

  one : 1 * steepness orders asset ≡ steepness orders asset
  one = omega arith

  pub above_one : is_above_in 1 orders prices asset ≡ is_above orders prices asset
  above_one = ap (λ n. int_lt (pos n) (low_excess_in 1 orders prices asset)) one ∙ ap (λ z. int_lt (pos (steepness orders asset)) z) low_one

  pub below_one : is_below_in 1 orders prices asset ≡ is_below orders prices asset
  below_one = ap (λ n. int_lt (high_excess_in 1 orders prices asset) (neg_ℤ (pos n))) one ∙ ap (λ z. int_lt z (neg_ℤ (pos (steepness orders asset)))) high_one

  -- an asset is unsettled by whole units
  pub unsettled_one : is_unsettled orders prices asset ≡ is_above orders prices asset || is_below orders prices asset
  unfolding is_unsettled
  unsettled_one = ap (λ b. b || is_below_in 1 orders prices asset) above_one ∙ ap (λ b. is_above orders prices asset || b) below_one
