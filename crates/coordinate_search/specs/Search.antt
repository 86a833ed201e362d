-- How a search for prices ended, and with which walk.
use Rattle.std.specs.Prelude.{ℕ, ℤ, List, length}
use Rattle.flow_orders.specs.Orders.{Order}
use Rattle.flow_orders.specs.Excess.{is_unsettled}
use Rattle.canonical_rule.specs.Turns.{IsCanonicalWalk, IsCanonicalTrace}
use Rattle.flow_orders.specs.Outcomes.{step_of, EndsSettled}
use Rattle.coordinate_search.specs.declared.searching.Found.{Found}
use Rattle.coordinate_search.specs.declared.searching.Found.TheVariants.{Settled, Spent}

-- a search ended with this walk: the shortest one in turn that settles all assets, or the one in turn of the whole budget, which leaves
-- some unsettled
abbrev pub IsFound : ℕ → Found → List Order → List ℤ → ℕ → List ℕ → Type 0
IsFound parts Settled orders start budget walk = IsCanonicalWalk (length start) (is_unsettled orders) (step_of parts orders) start budget walk
IsFound parts Spent orders start budget walk = IsCanonicalTrace (length start) (is_unsettled orders) (step_of parts orders) start budget walk × (¬ EndsSettled parts orders start walk)
