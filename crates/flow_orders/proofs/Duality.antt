-- What all rates cost is what the net trades cost, asset by asset.
use Rattle.std.proofs.Common.{◌≡◌, ℤ, ◌*ℤ◌, List, length, ap, sym, ◌∙◌}
use Rattle.std.specs.Prelude.{All, slice_index_or}
use Rattle.std.specs.List.{range_with_len}
use Rattle.std.proofs.Math.IntN.{*ℤ_comm}
use Rattle.list_sums.proofs.Products.{*ℤ-assoc}
use Rattle.weight_rows.specs.declared.entries.Entry.{Entry}
use Rattle.list_sums.specs.Sums.{int_sum_by}
use Rattle.weight_rows.specs.Rows.{IsWeightVector, IsPricedBy, weight_in, price_of, portfolio_price}
use Rattle.weight_rows.proofs.RowLawProofs.{price_sums_over_assets}
use Rattle.list_sums.proofs.SumLemmas.{int_sum_by-same}
use Rattle.list_sums.proofs.SumLemmas.{int_sum_by-same_all, int_sum_by-scale, int_sum_by-swap}

turn : (f w p : ℤ) → f *ℤ (w *ℤ p) ≡ p *ℤ (w *ℤ f)
turn f w p = *ℤ_comm f (w *ℤ p) ∙ ap (λ y. y *ℤ f) (*ℤ_comm w p) ∙ *ℤ-assoc p w f

module _ {X : Type 0} (row : X → List Entry) (rate : X → ℤ) (prices : List ℤ) where
  -- the prices of all rates sum to the prices of the net trades of each asset
  pub costs_by_asset : (xs : List X) → All (λ x. IsWeightVector (row x)) xs → All (λ x. IsPricedBy (row x) prices) xs
      → int_sum_by (λ x. rate x *ℤ portfolio_price (row x) prices) xs
      ≡ int_sum_by (λ a. price_of prices a *ℤ int_sum_by (λ x. weight_in (row x) a *ℤ rate x) xs) (range_with_len 0 (length prices))
  costs_by_asset xs lawful priced =
      let assets = range_with_len 0 (length prices) in
      let split = int_sum_by-same_all (λ x. rate x *ℤ portfolio_price (row x) prices) (λ x. int_sum_by (λ a. rate x *ℤ (weight_in (row x) a *ℤ price_of prices a)) assets) xs
      (λ k d inside. ap (λ y. rate (slice_index_or xs k d) *ℤ y) (price_sums_over_assets (row (slice_index_or xs k d)) prices (lawful k d inside) (priced k d inside)) ∙ int_sum_by-scale (λ a. weight_in (row (slice_index_or xs k d)) a *ℤ price_of prices a) (rate (slice_index_or xs k d)) assets) in
      let swapped = int_sum_by-swap (λ x a. rate x *ℤ (weight_in (row x) a *ℤ price_of prices a)) xs assets in
      let gathered = int_sum_by-same (λ a. int_sum_by (λ x. rate x *ℤ (weight_in (row x) a *ℤ price_of prices a)) xs) (λ a. price_of prices a *ℤ int_sum_by (λ x. weight_in (row x) a *ℤ rate x) xs) assets
      (λ a. int_sum_by-same (λ x. rate x *ℤ (weight_in (row x) a *ℤ price_of prices a)) (λ x. price_of prices a *ℤ (weight_in (row x) a *ℤ rate x)) xs (λ x. turn (rate x) (weight_in (row x) a) (price_of prices a)) ∙ sym (int_sum_by-scale (λ x. weight_in (row x) a *ℤ rate x) (price_of prices a) xs)) in
      split ∙ swapped ∙ gathered
