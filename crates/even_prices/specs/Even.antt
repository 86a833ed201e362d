-- Even prices: no asset has an excess that a grain of its price would mend. Excess is counted in parts of 1/256 of a unit.
use Rattle.std.specs.Prelude.{ℕ, ◌<◌, ◌⊎◌, Bool, ◌&&◌, ◌||◌, ℤ, pos, ◌≤ℤ◌, ◌<ℤ◌, int_lt, int_le, List, length}
use Rattle.flow_orders.specs.Orders.{Order}
use Rattle.flow_orders.specs.Excess.{low_excess_in, high_excess_in}
use Rattle.flow_orders.specs.Moves.{risen, fallen}

-- how many parts of a unit an excess is counted in
abbrev pub even_parts : ℕ
even_parts = 256

-- the price of an asset isn't too low: its low excess is at most 0, or its high excess is below 0 once its price is a grain higher
abbrev pub IsNotTooLow : List Order → List ℤ → ℕ → Type 0
IsNotTooLow orders prices asset =
    (low_excess_in even_parts orders prices asset ≤ℤ pos 0) ⊎ (high_excess_in even_parts orders (risen prices asset 1) asset <ℤ pos 0)

-- the price of an asset isn't too high: its high excess is at least 0, or its low excess is above 0 once its price is a grain lower
abbrev pub IsNotTooHigh : List Order → List ℤ → ℕ → Type 0
IsNotTooHigh orders prices asset =
    (pos 0 ≤ℤ high_excess_in even_parts orders prices asset) ⊎ (pos 0 <ℤ low_excess_in even_parts orders (fallen prices asset 1) asset)

-- an asset is even at these prices: its price is neither too low nor too high
pub record IsEven (orders : List Order) (prices : List ℤ) (asset : ℕ) : Type 0 where
  pub not_too_low : IsNotTooLow orders prices asset
  pub not_too_high : IsNotTooHigh orders prices asset

-- prices are even: every asset is even at them
abbrev pub AreEven : List Order → List ℤ → Type 0
AreEven orders prices = (asset : ℕ) → asset < length prices → IsEven orders prices asset

-- the first asset that isn't even
pub record IsFirstUneven (orders : List Order) (prices : List ℤ) (asset : ℕ) : Type 0 where
  pub inside : asset < length prices
  pub before : (earlier : ℕ) → earlier < asset → IsEven orders prices earlier
  pub uneven : ¬ IsEven orders prices asset

-- ---- the same as tests, by which walks of prices are defined

-- the low excess is above 0, and the high one isn't below 0 a grain higher
abbrev pub is_too_low : List Order → List ℤ → ℕ → Bool
is_too_low orders prices asset =
    int_lt (pos 0) (low_excess_in even_parts orders prices asset) && int_le (pos 0) (high_excess_in even_parts orders (risen prices asset 1) asset)

-- the high excess is below 0, and the low one isn't above 0 a grain lower
abbrev pub is_too_high : List Order → List ℤ → ℕ → Bool
is_too_high orders prices asset =
    int_lt (high_excess_in even_parts orders prices asset) (pos 0) && int_le (low_excess_in even_parts orders (fallen prices asset 1) asset) (pos 0)

-- whether an asset isn't even
unfoldable pub is_uneven : List Order → List ℤ → ℕ → Bool
is_uneven orders prices asset = is_too_low orders prices asset || is_too_high orders prices asset
