-- The loop that settles a book of one-asset orders, asset by asset.
use Rattle.std.proofs.Common.{◌≡◌, ℕ, zero, suc, ◌+◌, ◌-◌, ◌^◌, ◌≤◌, ◌<◌, inl, inr, ⊎_elim, Bool, true, false, cond, eqb, ℤ, List, [], ◌∷◌, length, refl, ap, sym, ◌∙◌, arith}
use Rattle.std.specs.Prelude.{All}
use Rattle.std.specs.List.{range_with_len, list_all}
use Rattle.std.proofs.lemmas.Bool.{and_parts, false≢true}
use Rattle.std.proofs.lemmas.Bool.Decides.{eqb_tells}
use Rattle.std.proofs.lemmas.List.{append-nil}
use Rattle.demand_curve.specs.Demand.{IsWithin}
use Rattle.weight_rows.specs.Rows.{price_of}
use Rattle.flow_orders.specs.Orders.{Order, IsOrder}
use Rattle.flow_orders.specs.Excess.{is_unsettled}
use Rattle.flow_orders.specs.Moves.{moved, single_reach}
use Rattle.canonical_rule.specs.Turns.{visits}
use Rattle.flow_orders.specs.Walks.{AreSettled}
use Rattle.canonical_rule.specs.Canonical.{moved_once}
use Rattle.flow_orders.specs.Outcomes.{are_single}
use Rattle.flow_orders.proofs.Singles.{IsSingle}
use Rattle.flow_orders.proofs.SettleSingle.{IsVisit, visit_settles}
use Rattle.flow_orders.proofs.Moving.{settled_is, is_settled, moved_is}
use Rattle.canonical_rule.proofs.CanonicalIsAdmissible.{settles_once}
use Rattle.price_moves.proofs.Ends.{all_consistent}

-- the assets before this one are visited: visiting the rest leads where visiting all does
pub record IsSettling (parts : ℕ) (orders : List Order) (start prices : List ℤ) (asset : ℕ) : Type 0 where
  pub count : length prices ≡ length start
  pub range : All (IsWithin (2 ^ 60)) prices
  pub rest : moved_once parts orders (range_with_len asset (length start - asset)) prices ≡ moved_once parts orders (visits (length start) 0) start

-- if every order names one asset, each does
single_each : (orders : List Order) → are_single orders ≡ true → All IsSingle orders
single_each [] all k d inside = absurd (omega (arith, inside))
single_each (o ∷ orders) all zero d inside =
    let parts = and_parts (eqb (length o.row) 1) (list_all (λ (o : Order). eqb (length o.row) 1) orders) all in
    ⊎_elim (λ same. same.1) (λ other. absurd (false≢true (sym other.0 ∙ parts.0))) (eqb_tells (length o.row) 1)
single_each (o ∷ orders) all (suc k) d inside = single_each orders (and_parts (eqb (length o.row) 1) (list_all (λ (o : Order). eqb (length o.row) 1) orders) all).1 k d (omega (arith, inside))

pub single_all : (orders : List Order) → All (λ (o : Order). length o.row ≡ 1) orders → are_single orders ≡ true
single_all [] all = refl
single_all (o ∷ orders) all =
    let one : length o.row ≡ 1 = all 0 o (omega arith) in
    rw one (single_all orders (λ k d inside. all (suc k) d (omega (arith, inside))))

-- what the loop does with one asset is a visit
visit_of : (parts : ℕ) (orders : List Order) (prices : List ℤ) (asset : ℕ) (b : Bool) → is_unsettled orders prices asset ≡ b → IsVisit parts orders single_reach prices asset (cond b (moved parts orders single_reach prices asset) prices)
visit_of parts orders prices asset true e = inr (moved_is parts orders single_reach prices asset (omega arith) e)
visit_of parts orders prices asset false e = inl (settled_is orders prices asset e, refl)

module _ (parts : ℕ) (whole : 1 ≤ parts) (orders : List Order) (single : are_single orders ≡ true) (each : All IsOrder orders) (start : List ℤ) where
  pub none_settled : All (IsWithin (2 ^ 60)) start → IsSettling parts orders start start 0
  none_settled range = record {
    count = refl;
    range = range;
    rest = ap (λ l. moved_once parts orders l start) (sym (append-nil (range_with_len 0 (length start - 0))));
  }

  -- one asset more is visited
  pub one_more_settled : (prices next : List ℤ) (asset : ℕ) → asset < length start → IsSettling parts orders start prices asset
      → next ≡ cond (is_unsettled orders prices asset) (moved parts orders single_reach prices asset) prices → IsSettling parts orders start next (asset + 1)
  one_more_settled prices next asset inside before turn =
      let visited = visit_settles parts whole orders single_reach (all_consistent orders each) (single_each orders single) (omega arith) prices asset _ (omega (arith, inside, before.count)) before.range
      (visit_of parts orders prices asset (is_unsettled orders prices asset) refl) in
      let left : length start - asset ≡ suc (length start - (asset + 1)) = omega (arith, inside) in
      rw turn (record {
        count = visited.count ∙ before.count;
        range = visited.range;
        rest = rw left at before.rest;
      })

  -- all assets are visited
  pub all_settled : (prices : List ℤ) (asset : ℕ) → length start ≤ asset → IsSettling parts orders start prices asset → prices ≡ moved_once parts orders (visits (length start) 0) start
  all_settled prices asset past before =
      let none : length start - asset ≡ 0 = omega (arith, past) in
      rw none at before.rest

  pub AreSettled-all : All (IsWithin (2 ^ 60)) start → (prices : List ℤ) (asset : ℕ) → length start ≤ asset → IsSettling parts orders start prices asset → AreSettled (length prices) (is_unsettled orders) prices
  AreSettled-all range prices asset past before a inside =
      is_settled orders prices a ((settles_once parts whole orders start prices single each range (all_settled prices asset past before)).settled a (omega (arith, inside, before.count)))

  pub kept : All (IsWithin (2 ^ 60)) start → (prices : List ℤ) (asset : ℕ) → length start ≤ asset → IsSettling parts orders start prices asset
      → (a : ℕ) → is_unsettled orders start a ≡ false → price_of prices a ≡ price_of start a
  kept range prices asset past before a settled =
      (settles_once parts whole orders start prices single each range (all_settled prices asset past before)).kept a (settled_is orders start a settled)
