-- The prices at which a batch starts, one by one.
use Rattle.std.proofs.Common.{◌≡◌, ℕ, ◌+◌, ◌<◌, ◌^◌, ℤ, List, [], ◌∷◌, ◌++◌, map, length, take, get_or, to_z, of_z, ap, sym, ◌∙◌, arith}
use Rattle.std.specs.Prelude.{All}
use Rattle.std.specs.Int.{w64}
use Rattle.std.proofs.lemmas.Int.{ints, fits_signed_from_abs, to_z-of_z}
use Rattle.std.proofs.lemmas.List.{take_more, map-append}
use Rattle.weight_rows.specs.Rows.{IsPrice}
use Rattle.demand_curve.specs.Demand.{IsWithin}
use Rattle.market_rules.specs.Market.{cut_price}

-- a price that is passed on is the same
same_price : (x : ℤ) → IsPrice x → to_z w64 (of_z w64 x) ≡ x
same_price x price = to_z-of_z w64 x (fits_signed_from_abs w64 x (omega (arith, ints, price)))

same_cut : (x : ℤ) → IsWithin (2 ^ 60) x → to_z w64 (of_z w64 x) ≡ x
same_cut x within = to_z-of_z w64 x (fits_signed_from_abs w64 x (omega (arith, ints, within)))

-- one more price is cut
pub cut_more : (last : List ℤ) (i : ℕ) (items : List ℤ) (d x : ℤ) → i < length last → All IsPrice last → items ≡ map cut_price (take i last)
    → x ≡ cut_price (to_z w64 (of_z w64 (get_or last i d))) → IsWithin (2 ^ 60) x
    → items ++ to_z w64 (of_z w64 x) ∷ [] ≡ map cut_price (take (i + 1) last)
cut_more last i items d x inside prices so_far is within =
    let value = is ∙ ap cut_price (same_price (get_or last i d) (prices i d inside)) in
    ap (λ l. l ++ to_z w64 (of_z w64 x) ∷ []) so_far ∙ ap (λ y. map cut_price (take i last) ++ y ∷ []) (same_cut x within ∙ value)
    ∙ sym (map-append cut_price (take i last) (get_or last i d ∷ [])) ∙ ap (map cut_price) (sym (take_more last i d inside))
