-- The exact dual value of a book, in parts of 1/N of a grain, and the movement of a walk.
use Rattle.std.specs.Prelude.{◌≡◌, ℕ, ◌+◌, ◌*◌, ◌/◌, ◌≤◌, ℤ, List, [], ◌∷◌, All}
use Rattle.std.specs.List.{sum_by}
use Rattle.demand_curve.specs.Demand.{Terms, span, scaled_dual}
use Rattle.flow_orders.specs.Orders.{Order, terms_of}
use Rattle.flow_orders.specs.Excess.{price_for}
use Rattle.flow_orders.specs.Moves.{amount_of, walk_reach}
use Rattle.flow_orders.specs.Outcomes.{step_of}

-- how many parts of 1/N are one part of 1/(2 * rate * span)
unfoldable pub share : ℕ → Terms → ℕ
share N t = N / (2 * t.rate * span t)

-- a positive number that 2 * rate * span of every order divides
abbrev pub IsCommonPart : ℕ → List Order → Type 0
IsCommonPart N orders = (1 ≤ N) × All (λ o. share N (terms_of o) * (2 * o.rate * span (terms_of o)) ≡ N) orders

-- the exact dual value of a book at given prices, in parts of 1/N of a grain: nothing is rounded
abbrev pub exact_dual : ℕ → List Order → List ℤ → ℕ
exact_dual N orders prices = sum_by (λ o. share N (terms_of o) * scaled_dual (terms_of o) (price_for prices o)) orders

-- the movement of a walk, in grains: the sum of the amounts of its moves
abbrev pub movement_of : ℕ → List Order → List ℤ → List ℕ → ℕ
movement_of parts orders prices [] = 0
movement_of parts orders prices (asset ∷ walk) = amount_of parts orders walk_reach prices asset + movement_of parts orders (step_of parts orders prices asset) walk
