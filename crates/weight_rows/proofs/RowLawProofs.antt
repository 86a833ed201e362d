-- The laws of weight vectors.
use Rattle.std.proofs.Common.{◌≡◌, ◌≢◌, ℕ, zero, suc, ◌<◌, ◌≤◌, ℤ, pos, ◌+ℤ◌, ◌-ℤ◌, ◌*ℤ◌, eqb, cond, List, [], ◌∷◌, length, get_or, set, sym, ap, ◌∙◌, refl, subst, arith, ⊎_elim}
use Rattle.std.specs.Prelude.{unsigned_abs, All, AllPairs, Contains, slice_index_or}
use Rattle.std.specs.List.{range_with_len}
use Rattle.std.proofs.lemmas.Int.{ints}
use Rattle.std.proofs.Math.IntN.{zero-*ℤ}
use Rattle.std.proofs.lemmas.Bool.{ne_eqb, eq-eqb}
use Rattle.std.proofs.lemmas.Bool.Decides.{eqb_tells}
use Rattle.std.proofs.lemmas.List.{get_or-set_other, get_or-set_same, get_or_default}
use Rattle.std.proofs.lemmas.List.Kept.{AllPairs-from_increasing}
use Rattle.weight_rows.specs.declared.entries.Entry.{Entry}
use Rattle.list_sums.specs.Sums.{int_sum_by}
use Rattle.weight_rows.specs.Rows.{most_weight, assets_of, IsLawfulWeight, IsWeightVector, weight_in, price_of, IsPricedBy, portfolio_price}
use Rattle.weight_rows.specs.RowLaws.{PriceFollowsOnePrice, PriceSumsOverAssets, EntriesGiveWeights, NamedAssetsWeigh, WeightsAreSmall}
use Rattle.list_sums.proofs.Products.{*ℤ-sub}
use Rattle.list_sums.proofs.SumLemmas.{int_sum_by-same, int_sum_by-add, int_sum_by-zeros, int_sum_by-only}
use Rattle.weight_rows.proofs.RowLemmas.{no_entry, length-assets_of, asset_at}

-- each asset is below all later ones
abbrev Ascend : List Entry → Type 0
Ascend row = AllPairs (λ x y. x < y) (assets_of row)

Ascend-lawful : (row : List Entry) → IsWeightVector row → Ascend row
Ascend-lawful row lawful = AllPairs-from_increasing (assets_of row) lawful.ascending

Ascend-tail : (e : Entry) (row : List Entry) → Ascend (e ∷ row) → Ascend row
Ascend-tail e row h i j d before within = h (suc i) (suc j) d (omega (arith, before)) (omega (arith, within))

-- no leg names this asset
abbrev IsAbsent : List Entry → ℕ → Type 0
IsAbsent row asset = (k : ℕ) (d : ℕ) → k < length (assets_of row) → get_or (assets_of row) k d ≢ asset

-- the first leg's asset is named by no later leg
IsAbsent-head : (e : Entry) (row : List Entry) → Ascend (e ∷ row) → IsAbsent row e.asset
IsAbsent-head e row h k d within same =
    let later : e.asset < get_or (assets_of row) k d = h 0 (suc k) d (omega arith) (omega (arith, within)) in
    omega (arith, later, same)

weight_in-absent : (row : List Entry) (asset : ℕ) → IsAbsent row asset → weight_in row asset ≡ pos 0
unfolding weight_in
weight_in-absent [] asset absent = refl
weight_in-absent (e ∷ row) asset absent =
    let other : e.asset ≢ asset = absent 0 0 (omega arith) in
    rw (ne_eqb e.asset asset other) (weight_in-absent row asset (λ k d within. absent (suc k) d (omega (arith, within))))

-- ---- one price changes
moved : (row : List Entry) (prices : List ℤ) (asset : ℕ) (price : ℤ) → Ascend row → asset < length prices → portfolio_price row (set prices asset price) ≡ portfolio_price row prices +ℤ weight_in row asset *ℤ (price -ℤ price_of prices asset)
unfolding portfolio_price weight_in
moved [] prices asset price ascend within = omega (arith, ints, zero-*ℤ (price -ℤ price_of prices asset))
moved (e ∷ row) prices asset price ascend within =
    let rest = moved row prices asset price (Ascend-tail e row ascend) within in
    ⊎_elim
    (λ here.
    let absent : weight_in row asset ≡ pos 0 = weight_in-absent row asset (λ k d inside. subst (λ a. get_or (assets_of row) k d ≢ a) here.1 (IsAbsent-head e row ascend k d inside)) in
    let kept = rw (absent, zero-*ℤ) at rest in
    rw (here.0, here.1, get_or-set_same prices asset price (pos 0) within) (omega (arith, ints, kept, *ℤ-sub e.weight price (price_of prices asset))))
    (λ other. rw (other.0, get_or-set_other prices asset e.asset price (pos 0) other.1) (omega (arith, ints, rest)))
    (eqb_tells e.asset asset)

pub price_follows_one_price : PriceFollowsOnePrice
price_follows_one_price row prices asset price lawful within = moved row prices asset price (Ascend-lawful row lawful) within

-- ---- the sum over all assets
cost : List Entry → List ℤ → ℕ → ℤ
cost row prices asset = weight_in row asset *ℤ price_of prices asset

-- the first leg's part of an asset's cost, and that of the others
split_cost : (e : Entry) (row : List Entry) (prices : List ℤ) (asset : ℕ) → Ascend (e ∷ row) → cost (e ∷ row) prices asset ≡ cond (eqb e.asset asset) (e.weight *ℤ price_of prices asset) (pos 0) +ℤ cost row prices asset
unfolding cost weight_in
split_cost e row prices asset ascend =
    ⊎_elim
    (λ here.
    let absent : weight_in row asset ≡ pos 0 = weight_in-absent row asset (λ k d inside. subst (λ a. get_or (assets_of row) k d ≢ a) here.1 (IsAbsent-head e row ascend k d inside)) in
    rw (here.0, absent) (omega (arith, ints, zero-*ℤ (price_of prices asset))))
    (λ other. rw other.0 (omega (arith, ints)))
    (eqb_tells e.asset asset)

summed : (row : List Entry) (prices : List ℤ) → Ascend row → IsPricedBy row prices → portfolio_price row prices ≡ int_sum_by (cost row prices) (range_with_len 0 (length prices))
unfolding portfolio_price cost weight_in
summed [] prices ascend priced = sym (int_sum_by-zeros (cost [] prices) (range_with_len 0 (length prices)) (λ k d inside. zero-*ℤ (price_of prices (slice_index_or (range_with_len 0 (length prices)) k d))))
summed (e ∷ row) prices ascend priced =
    let all = range_with_len 0 (length prices) in
    let mine = λ (asset : ℕ). e.weight *ℤ price_of prices asset in
    let first = λ (asset : ℕ). cond (eqb e.asset asset) (mine asset) (pos 0) in
    let rest = summed row prices (Ascend-tail e row ascend) (λ k d inside. priced (suc k) d (omega (arith, inside))) in
    let split = int_sum_by-same (cost (e ∷ row) prices) (λ asset. first asset +ℤ cost row prices asset) all (λ asset. split_cost e row prices asset ascend) in
    let only = int_sum_by-only mine 0 (length prices) e.asset (omega arith) (omega (arith, priced 0 e (omega arith))) in
    omega (arith, ints, rest, split, only, int_sum_by-add first (cost row prices) all)

pub price_sums_over_assets : PriceSumsOverAssets
unfolding cost
price_sums_over_assets row prices lawful priced = summed row prices (Ascend-lawful row lawful) priced

-- ---- weights and legs
given : (row : List Entry) → Ascend row → All (λ e. weight_in row e.asset ≡ e.weight) row
unfolding weight_in
given [] ascend k d within = absurd (omega (arith, within))
given (e ∷ row) ascend zero d within = rw (eq-eqb e.asset e.asset refl) refl
given (e ∷ row) ascend (suc k) d within =
    let inside : k < length row = omega (arith, within) in
    let later : e.asset < get_or (assets_of row) k 0 = ascend 0 (suc k) 0 (omega arith) (omega (arith, inside, length-assets_of row)) in
    let other : e.asset ≢ (get_or row k d).asset = λ same. omega (arith, later, asset_at row k d inside, same) in
    rw (ne_eqb e.asset (get_or row k d).asset other) (given row (Ascend-tail e row ascend) k d inside)

pub entries_give_weights : EntriesGiveWeights
entries_give_weights row lawful = given row (Ascend-lawful row lawful)

found : (row : List Entry) (asset : ℕ) → weight_in row asset ≢ pos 0 → Contains (assets_of row) asset
unfolding weight_in
found [] asset weighs = absurd (weighs refl)
found (e ∷ row) asset weighs =
    ⊎_elim
    (λ here. (0, omega arith, here.1))
    (λ other.
    let later : Contains (assets_of row) asset = found row asset (λ none. weighs (rw other.0 none)) in
    (suc later.0, omega (arith, later.1), later.2))
    (eqb_tells e.asset asset)

weighs : (row : List Entry) (asset : ℕ) → IsWeightVector row → Contains (assets_of row) asset → weight_in row asset ≢ pos 0
weighs row asset lawful (k, within, at_k) none =
    let inside : k < length row = omega (arith, within, length-assets_of row) in
    let named : (get_or row k no_entry).asset ≡ asset = sym (asset_at row k no_entry inside) ∙ get_or_default (assets_of row) k 0 asset within ∙ at_k in
    let weight = given row (Ascend-lawful row lawful) k no_entry inside in
    let is_zero : (get_or row k no_entry).weight ≡ pos 0 = sym weight ∙ ap (weight_in row) named ∙ none in
    omega (arith, ints, (lawful.weights k no_entry inside).0, is_zero)

pub named_assets_weigh : NamedAssetsWeigh
named_assets_weigh row asset lawful = (found row asset, weighs row asset lawful)

weight_small : (row : List Entry) (asset : ℕ) → All (λ e. IsLawfulWeight e.weight) row → unsigned_abs (weight_in row asset) ≤ most_weight
unfolding weight_in
weight_small [] asset weights = omega arith
weight_small (e ∷ row) asset weights =
    ⊎_elim
    (λ here. rw here.0 (weights 0 e (omega arith)).1)
    (λ other. rw other.0 (weight_small row asset (λ k d inside. weights (suc k) d (omega (arith, inside)))))
    (eqb_tells e.asset asset)

pub weights_are_small : WeightsAreSmall
weights_are_small row asset lawful = weight_small row asset lawful.weights
