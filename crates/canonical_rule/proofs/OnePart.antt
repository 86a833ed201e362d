-- With one part the rule of moves is that by whole units.
use Rattle.std.proofs.Common.{◌≡◌, ℕ, Bool, true, false, not, cond, ℤ, pos, List, [], ◌∷◌, length, inl, ⊎_elim, refl, ap, sym, subst, ◌∙◌, ◌↔◌, arith}
use Rattle.std.proofs.Math.Path.{fun_ext}
use Rattle.flow_orders.specs.Orders.{Order}
use Rattle.flow_orders.specs.Excess.{is_below_in, is_unsettled}
use Rattle.flow_orders.specs.WholeUnits.{is_above, is_below}
use Rattle.flow_orders.proofs.WholeUnits.{low_one, high_one, above_one, below_one, unsettled_one}
use Rattle.flow_orders.specs.Walks.{walk_end, IsLegal, AreSettled}
use Rattle.canonical_rule.specs.Turns.{visits, walk_in_turn}
use Rattle.flow_orders.specs.Moves.{least_amount, risen, fallen, rise_of, fall_of, moved, amount_of, walk_reach, single_reach}
use Rattle.flow_orders.specs.Outcomes.{Outcome, Cleared, Skipped, dual_of, step_of, end_of, IsLegalFrom, IsAdmissibleOutcome, skipping_at, are_single}
use Rattle.canonical_rule.specs.Attempts.{walks_alone, canonical_walk}
use Rattle.canonical_rule.specs.Canonical.{moved_once, ArePricesOf, IsCanonicalOutcome}
use Rattle.flow_orders.specs.Duals.{movement_of}
use Rattle.canonical_rule.specs.Units.{rise_by_units, fall_by_units, moved_by_units, amount_by_units, step_by_units, IsLegalByUnits, end_by_units, movement_by_units, skipping_by_units, IsAdmissibleByUnits, moved_once_by_units, walk_by_units, ArePricesByUnits, IsCanonicalByUnits}
use Rattle.canonical_rule.specs.Laws.{OnePartIsWholeUnits}

-- ---- moves

module _ (orders : List Order) (reach : ℕ) (prices : List ℤ) (asset : ℕ) where
  rise_is : rise_of 1 orders reach prices asset ≡ rise_by_units orders reach prices asset
  rise_is = ap (least_amount reach) (fun_ext (λ d. ap not (above_one orders (risen prices asset d) asset)))

  fall_is : fall_of 1 orders reach prices asset ≡ fall_by_units orders reach prices asset
  fall_is = ap (least_amount reach) (fun_ext (λ d. ap not (below_one orders (fallen prices asset d) asset)))

  moved_is : moved 1 orders reach prices asset ≡ moved_by_units orders reach prices asset
  unfolding moved moved_by_units
  moved_is =
      let above = is_above orders prices asset in
      let below = is_below orders prices asset in
      ap (λ b. cond b (risen prices asset (rise_of 1 orders reach prices asset)) (cond (is_below_in 1 orders prices asset) (fallen prices asset (fall_of 1 orders reach prices asset)) prices)) (above_one orders prices asset)
      ∙ ap (λ b. cond above (risen prices asset (rise_of 1 orders reach prices asset)) (cond b (fallen prices asset (fall_of 1 orders reach prices asset)) prices)) (below_one orders prices asset)
      ∙ ap (λ d. cond above (risen prices asset d) (cond below (fallen prices asset (fall_of 1 orders reach prices asset)) prices)) rise_is
      ∙ ap (λ d. cond above (risen prices asset (rise_by_units orders reach prices asset)) (cond below (fallen prices asset d) prices)) fall_is

  amount_is : amount_of 1 orders reach prices asset ≡ amount_by_units orders reach prices asset
  unfolding amount_of amount_by_units
  amount_is =
      let above = is_above orders prices asset in
      let below = is_below orders prices asset in
      ap (λ b. cond b (rise_of 1 orders reach prices asset) (cond (is_below_in 1 orders prices asset) (fall_of 1 orders reach prices asset) 0)) (above_one orders prices asset)
      ∙ ap (λ b. cond above (rise_of 1 orders reach prices asset) (cond b (fall_of 1 orders reach prices asset) 0)) (below_one orders prices asset)
      ∙ ap (λ d. cond above d (cond below (fall_of 1 orders reach prices asset) 0)) rise_is
      ∙ ap (λ d. cond above (rise_by_units orders reach prices asset) (cond below d 0)) fall_is

-- ---- walks

step_is : (orders : List Order) → ◌≡◌ {A = List ℤ → ℕ → List ℤ} (step_of 1 orders) (step_by_units orders)
step_is orders = fun_ext (λ prices. fun_ext (λ asset. moved_is orders walk_reach prices asset))

end_is : (orders : List Order) (start : List ℤ) (walk : List ℕ) → end_of 1 orders start walk ≡ end_by_units orders start walk
end_is orders start walk = ap (λ step. walk_end step start walk) (step_is orders)

movement_is : (orders : List Order) (start : List ℤ) (walk : List ℕ) → movement_of 1 orders start walk ≡ movement_by_units orders start walk
movement_is orders start [] = refl
movement_is orders start (asset ∷ walk) =
    let here = amount_is orders walk_reach start asset in
    let next = movement_is orders (step_of 1 orders start asset) walk ∙ ap (λ p. movement_by_units orders p walk) (moved_is orders walk_reach start asset) in
    omega (arith, here, next)

legal_is : (orders : List Order) (start : List ℤ) (walk : List ℕ) → IsLegalFrom 1 orders start walk ↔ IsLegalByUnits orders start walk
legal_is orders start walk =
    let family = λ (step : List ℤ → ℕ → List ℤ). IsLegal (length start) (is_unsettled orders) step start walk in
    (subst family (step_is orders), subst family (sym (step_is orders)))

-- ---- outcomes

skipping_is : (orders : List Order) (start : List ℤ) (walk : List ℕ) → skipping_at 1 orders start walk ≡ skipping_by_units orders start walk
skipping_is orders start walk = ap (λ p. record { trace = walk; start_dual = pos (dual_of orders start); end_dual = pos (dual_of orders p) }) (end_is orders start walk)

once_is : (orders : List Order) (assets : List ℕ) (start : List ℤ) → moved_once 1 orders assets start ≡ moved_once_by_units orders assets start
once_is orders [] start = refl
once_is orders (a ∷ assets) start =
    once_is orders assets (cond (is_unsettled orders start a) (moved 1 orders single_reach start a) start)
    ∙ ap (λ p. moved_once_by_units orders assets (cond (is_unsettled orders start a) p start)) (moved_is orders single_reach start a)

right_is : (orders : List Order) (start : List ℤ) (budget : ℕ) (o : Outcome) → IsAdmissibleOutcome (walks_alone 1) orders start budget o ↔ IsAdmissibleByUnits orders start budget o
right_is orders start budget (Cleared c) = ((λ right. right), (λ right. right))
right_is orders start budget (Skipped s) = (
  (λ right. record {
    wide = right.wide;
    legal = (legal_is orders start s.trace).0 right.legal;
    whole = right.whole;
    unsettled = λ settled. right.unsettled (subst (AreSettled (length start) (is_unsettled orders)) (sym (end_is orders start s.trace)) settled);
    duals = right.duals ∙ skipping_is orders start s.trace;
  }),
  (λ right. record {
    wide = right.wide;
    legal = (legal_is orders start s.trace).1 right.legal;
    whole = right.whole;
    unsettled = λ settled. right.unsettled (subst (AreSettled (length start) (is_unsettled orders)) (end_is orders start s.trace) settled);
    duals = right.duals ∙ sym (skipping_is orders start s.trace);
  }),
)

walk_is : (orders : List Order) (start : List ℤ) (budget : ℕ) → canonical_walk 1 orders start budget ≡ walk_by_units orders start budget
walk_is orders start budget = ap (λ step. walk_in_turn (length start) (is_unsettled orders) step budget 0 start) (step_is orders)

end_of_walk : (orders : List Order) (start : List ℤ) (budget : ℕ) → end_of 1 orders start (canonical_walk 1 orders start budget) ≡ end_by_units orders start (walk_by_units orders start budget)
end_of_walk orders start budget = ap (end_of 1 orders start) (walk_is orders start budget) ∙ end_is orders start (walk_by_units orders start budget)

prices_are : (single : Bool) (orders : List Order) (start : List ℤ) (budget : ℕ) (end : List ℤ) → ArePricesOf (walks_alone 1) single orders start budget end ↔ ArePricesByUnits single orders start budget end
prices_are true orders start budget end = ((λ own. own ∙ once_is orders (visits (length start) 0) start), (λ own. own ∙ sym (once_is orders (visits (length start) 0) start)))
prices_are false orders start budget end =
    let same = end_of_walk orders start budget in
    let settled = AreSettled (length start) (is_unsettled orders) in (
      (λ own. ⊎_elim (λ here. (subst settled same here.0, here.1 ∙ same)) (λ after. absurd after.1) own),
      (λ own. inl (subst settled (sym same) own.0, own.1 ∙ sym same)),
    )

own_is : (orders : List Order) (start : List ℤ) (budget : ℕ) (o : Outcome) → IsCanonicalOutcome (walks_alone 1) orders start budget o ↔ IsCanonicalByUnits orders start budget o
own_is orders start budget (Cleared c) =
    let prices = prices_are (are_single orders) orders start budget c.prices in
    ((λ own. (prices.0 own.0, own.1)), (λ own. (prices.1 own.0, own.1)))
own_is orders start budget (Skipped s) =
    let same = end_of_walk orders start budget in
    let settled = AreSettled (length start) (is_unsettled orders) in
    let skip = ap (skipping_at 1 orders start) (walk_is orders start budget) ∙ skipping_is orders start (walk_by_units orders start budget) in (
      (λ own. (own.0, (λ ends. own.1.0 (subst settled (sym same) ends)), own.2 ∙ skip)),
      (λ own. (own.0, ((λ ends. own.1 (subst settled same ends)), tt), own.2 ∙ sym skip)),
    )

pub one_part_is_whole_units : OnePartIsWholeUnits
one_part_is_whole_units = record {
  low = low_one;
  high = high_one;
  above = above_one;
  below = below_one;
  unsettled = unsettled_one;
  rise = rise_is;
  fall = fall_is;
  prices = moved_is;
  amount = amount_is;
  end = end_is;
  movement = movement_is;
  legal = legal_is;
  skip = skipping_is;
  right = right_is;
  own = own_is;
}
