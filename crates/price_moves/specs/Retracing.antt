-- Walks that are made again, and how far moves lower the dual.
use Rattle.std.specs.Prelude.{◌≡◌, ℕ, ◌+◌, ◌*◌, ◌<◌, ◌≤◌, true, ℤ, List, length, take}
use Rattle.flow_orders.specs.Orders.{Order}
use Rattle.flow_orders.specs.Excess.{is_unsettled}
use Rattle.flow_orders.specs.Outcomes.{IsLegalFrom, end_of}
use Rattle.flow_orders.specs.Duals.{IsCommonPart, exact_dual}
use Rattle.price_moves.specs.declared.retracing.Retraced.{Retraced}
use Rattle.price_moves.specs.declared.retracing.Retraced.TheVariants.{Legal, Illegal}

-- place `place` of a walk has the first move that isn't valid: the moves before it are, and together with it they aren't
pub record IsFirstIllegal (parts : ℕ) (orders : List Order) (start : List ℤ) (walk : List ℕ) (place : ℕ) : Type 0 where
  pub inside : place < length walk
  pub before : IsLegalFrom parts orders start (take place walk)
  pub refused : ¬ IsLegalFrom parts orders start (take (place + 1) walk)

-- a walk from the start prices was made again as far as it is valid, and led to these prices
abbrev pub IsRetraced : ℕ → Retraced → List Order → List ℤ → List ℕ → List ℤ → Type 0
IsRetraced parts Legal orders start walk end = IsLegalFrom parts orders start walk × (end ≡ end_of parts orders start walk)
IsRetraced parts (Illegal place) orders start walk end = IsFirstIllegal parts orders start walk place × (end ≡ end_of parts orders start (take place walk))

-- a move of this asset at these prices is valid: the asset has a price and is unsettled
abbrev pub IsMovable : List Order → List ℤ → ℕ → Type 0
IsMovable orders prices asset = (asset < length prices) × (is_unsettled orders prices asset ≡ true)

-- moves by this movement in all, in grains, lowered the exact dual value by at least their movement
abbrev pub IsLowered : List Order → List ℤ → ℕ → List ℤ → Type 0
IsLowered orders start movement end = (N : ℕ) → IsCommonPart N orders → exact_dual N orders end + N * movement ≤ exact_dual N orders start

-- the moves of a walk that were made again
abbrev pub made_of : Retraced → List ℕ → List ℕ
made_of Legal walk = walk
made_of (Illegal place) walk = take place walk
