-- What the numbers of an outcome promise: the gap of a clearing, and the dual values of a skip.
use Rattle.std.specs.Prelude.{ℕ, ℤ, pos, ◌≤ℤ◌, List}
use Rattle.flow_orders.specs.Orders.{Order}
use Rattle.flow_orders.specs.Welfare.{IsOptimalWithin}
use Rattle.batch_outcome.specs.declared.outcome.Cleared.{Cleared}
use Rattle.batch_outcome.specs.declared.outcome.Outcome.{Outcome}
use Rattle.batch_outcome.specs.declared.outcome.Outcome.TheVariants as variants
use Rattle.batch_outcome.specs.Published.{skipping_of}
use Rattle.batch_outcome.specs.GapBound.{gap_bound}
use Rattle.batch_outcome.specs.Progress.{LowersTheDual}

-- no balanced rates beat those of a clearing by more than its gap, which is at most what roundings can lose and imbalances within
-- their tolerances can cost
pub record IsCertifiedClearing (orders : List Order) (c : Cleared) : Type 0 where
  pub optimal : IsOptimalWithin c.gap orders c.rates
  pub bounded : c.gap ≤ℤ pos (gap_bound orders c.prices)

-- the gap of a clearing is such a gap; the walk of a skip, by this many parts, lowers the exact dual value by at least its movement
abbrev pub IsCertified : ℕ → List Order → List ℤ → Outcome → Type 0
IsCertified parts orders start (variants.Cleared c) = IsCertifiedClearing orders c
IsCertified parts orders start (variants.Skipped s) = LowersTheDual parts orders start (skipping_of s)
