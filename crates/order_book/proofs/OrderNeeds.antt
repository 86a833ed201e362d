-- What an order needs: the money of its account, and the units that its legs give away.
use Rattle.std.proofs.Common.{◌≡◌, ℕ, suc, ◌+◌, ◌*◌, ◌<◌, Bool, true, false, ◌&&◌, cond, eqb, ℤ, pos, List, [], ◌∷◌, get_or, refl, ap, subst, ◌∙◌, ⊎_elim, arith}
use Rattle.std.specs.Prelude.{All, AllPairs}
use Rattle.std.proofs.lemmas.Bool.{cases_Bool, eqb-true}
use Rattle.std.proofs.lemmas.Bool.Decides.{eqb_tells}
use Rattle.std.proofs.lemmas.List.Sums.{sum_by-cons}
use Rattle.std.proofs.lemmas.List.Kept.{AllPairs-from_increasing}
use Rattle.weight_rows.specs.declared.entries.Entry.{Entry}
use Rattle.weight_rows.specs.Rows.{weight_in, assets_of, IsWeightVector}
use Rattle.weight_rows.proofs.RowLemmas.{asset_at, length-assets_of}
use Rattle.flow_orders.specs.Orders.{Order, sold}
use Rattle.demand_curve.specs.Numbers.{or_zero}
use Rattle.order_book.specs.declared.sums.Need.{Need}
use Rattle.order_book.specs.declared.sums.Need.TheVariants.{Money, Units}
use Rattle.order_book.specs.Sums.{same_need}
use Rattle.order_book.specs.Needs.{need_for, entry_need, entries_need}

-- each asset is below all later ones
abbrev Ascend : List Entry → Type 0
Ascend row = AllPairs (λ x y. x < y) (assets_of row)

ascend_tail : (e : Entry) (row : List Entry) → Ascend (e ∷ row) → Ascend row
ascend_tail e row ascend i j d before inside = ascend (suc i) (suc j) d (omega (arith, before)) (omega (arith, inside))

later_above : (e : Entry) (row : List Entry) → Ascend (e ∷ row) → All (λ f. e.asset < f.asset) row
later_above e row ascend k d inside =
    let below : e.asset < get_or (assets_of row) k 0 = ascend 0 (suc k) 0 (omega arith) (omega (arith, inside, length-assets_of row)) in
    omega (arith, below, asset_at row k d inside)

-- an asset below all that the legs name has no weight
weight_below : (row : List Entry) (asset : ℕ) → All (λ f. asset < f.asset) row → weight_in row asset ≡ pos 0
unfolding weight_in
weight_below [] asset above = refl
weight_below (e ∷ row) asset above =
    ⊎_elim
    (λ same. let less : asset < e.asset = above 0 e (omega arith) in absurd (omega (arith, less, same.1)))
    (λ other. rw other.0 (weight_below row asset (λ k d inside. above (suc k) d (omega (arith, inside)))))
    (eqb_tells e.asset asset)

-- legs need no money
no_money : (account units a : ℕ) (row : List Entry) → entries_need account units (Money a) row ≡ 0
no_money account units a [] = refl
no_money account units a (e ∷ row) =
    omega (arith, sum_by-cons (entry_need account units (Money a)) e row, no_money account units a row)

nested : (own here : Bool) (n : ℕ) → cond (own && here) n 0 ≡ cond own (cond here n 0) 0
nested true here n = refl
nested false here n = refl

-- if this leg has the asset, the later ones give away none of it
joined : (own here : Bool) (w later : ℤ) (units : ℕ) → (here ≡ true → later ≡ pos 0)
    → cond own (cond here (sold w * units) 0) 0 + cond own (sold later * units) 0 ≡ cond own (sold (cond here w later) * units) 0
joined true true w later units none = rw (none refl) (omega arith)
joined true false w later units none = omega arith
joined false here w later units none = refl

-- legs need the units that the weight vector gives away
units_sold : (account units a s : ℕ) (row : List Entry) → Ascend row
    → entries_need account units (Units a s) row ≡ cond (eqb account a) (sold (weight_in row s) * units) 0
unfolding weight_in
units_sold account units a s [] ascend = ⊎_elim (λ own. rw own (omega arith)) (λ other. rw other refl) (cases_Bool (eqb account a))
units_sold account units a s (e ∷ row) ascend =
    sum_by-cons (entry_need account units (Units a s)) e row
    ∙ ap (λ n. n + entries_need account units (Units a s) row) (nested (eqb account a) (eqb e.asset s) (sold e.weight * units))
    ∙ ap (λ n. cond (eqb account a) (cond (eqb e.asset s) (sold e.weight * units) 0) 0 + n) (units_sold account units a s row (ascend_tail e row ascend))
    ∙ joined (eqb account a) (eqb e.asset s) e.weight (weight_in row s) units
    (λ here. subst (λ asset. weight_in row asset ≡ pos 0) (eqb-true e.asset s here) (weight_below row e.asset (later_above e row ascend)))

-- an order needs its money, and what its legs give away
pub needs_are : (units : ℕ) (need : Need) (o : Order) (account money : ℕ) (entries : List Entry) → IsWeightVector o.row
    → account ≡ o.account → money ≡ or_zero o.high * units → entries ≡ o.row
    → cond (same_need (Money account) need) money 0 + entries_need account units need entries ≡ need_for units need o
needs_are units (Money a) o account money entries lawful whose amount row =
    rw (whose, amount, row) (omega (arith, no_money o.account units a o.row))
needs_are units (Units a s) o account money entries lawful whose amount row =
    rw (whose, row) (omega (arith, units_sold o.account units a s o.row (AllPairs-from_increasing (assets_of o.row) lawful.ascending)))
