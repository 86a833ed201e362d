-- Rates that are rounded up if that makes the sum of absolute imbalances smaller.
use Rattle.std.specs.Prelude.{ℕ, ◌+◌, Bool, ◌&&◌, nat_lt, if◌then◌else◌, ℤ, pos, ◌+ℤ◌, ◌*ℤ◌, unsigned_abs, List, [], ◌∷◌, map}
use Rattle.std.specs.List.{range_with_len, sum_by, zip}
use Rattle.list_sums.specs.Sums.{int_sum_by}

-- the sum of the absolute imbalances of n assets, in units
abbrev pub absolute_sum : ℕ → (ℕ → ℤ) → ℕ
absolute_sum n residuals = sum_by (λ asset. unsigned_abs (residuals asset)) (range_with_len 0 n)

-- orders of any kind, with the weight of each asset
module _ {X : Type 0} (weight : X → ℕ → ℤ) where
  -- the imbalance of an asset at these rates, one for each order
  abbrev pub left_by : List X → List ℕ → ℕ → ℤ
  left_by xs rates asset = int_sum_by (λ x. weight x.0 asset *ℤ pos x.1) (zip xs rates)

  -- the imbalances after one order trades one unit more
  abbrev pub raised : (ℕ → ℤ) → X → ℕ → ℤ
  raised residuals x asset = residuals asset +ℤ weight x asset

-- orders of any kind, with the weight of each asset, the demand rounded down, and whether the demand isn't whole
module _ {X : Type 0} (n : ℕ) (weight : X → ℕ → ℤ) (floor : X → ℕ) (is_fraction : X → Bool) where
  -- an order is rounded up if its demand isn't whole and that makes the sum of absolute imbalances strictly smaller
  abbrev pub is_raised : (ℕ → ℤ) → X → Bool
  is_raised residuals x = is_fraction x && nat_lt (absolute_sum n (raised weight residuals x)) (absolute_sum n residuals)

  -- the rates that are chosen for these orders in turn, given the imbalances before the first of them
  abbrev pub chosen_from : (ℕ → ℤ) → List X → List ℕ
  chosen_from residuals [] = []
  chosen_from residuals (x ∷ xs) =
      if is_raised residuals x then (floor x + 1) ∷ chosen_from (raised weight residuals x) xs else floor x ∷ chosen_from residuals xs

  -- the chosen rates of all orders: the imbalances at the beginning are those of all demands rounded down
  abbrev pub chosen_rates : List X → List ℕ
  chosen_rates xs = chosen_from (left_by weight xs (map floor xs)) xs
